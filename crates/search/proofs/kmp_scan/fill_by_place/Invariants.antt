-- Of whatever pattern the tables by rank are, the entries of the places below p stand, and j is the number of noholes among them.
use Rattle.std.proofs.Common.{ℕ, ◌≤◌, List}
use Rattle.search.specs.Internal.KmpScan.{ByRank}
use Rattle.search.proofs.KmpScan.{AtPlace}
use Rattle.search.proofs.kmp_scan.fill_by_place.Given as goal

abbrev pub invariant-loop-p : goal.invariant-loop-p
invariant-loop-p l = record {
  number : l.j ≤ l.p;
  places : (w : List ℕ) → ByRank w l.pattern.order l.pattern.shift l.pattern.len l.pattern.noholes → AtPlace w l.tables.shifts l.tables.belows l.p l.j;
}
