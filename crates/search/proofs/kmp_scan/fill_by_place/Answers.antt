-- Each place adds an entry to both tables, as a nohole's or as a hole's; past the last place those of m are put.
use Rattle.std.proofs.Common.{◌<◌, refl, arith}
use Rattle.search.proofs.KmpScan.{place_begin, place_nohole, place_hole, place_end}
use Rattle.search.proofs.kmp_scan.fill_by_place.Goals as goal
use Rattle.search.proofs.kmp_scan.fill_by_place.Goals.{then-j-pattern+then-from-p, else-j-pattern, else-j-pattern-via-then-j-pattern+else-from-p, else-j-pattern-via-else-j-pattern}

pub loop-p-init : goal.loop-p-init
loop-p-init c = record { number = omega arith; places = λ w B. place_begin B (omega arith) (omega arith) }

pub loop-p-preserved : goal.loop-p-preserved
loop-p-preserved c =
    let inside : c.loop-p.p < c.args.pattern.now.len = omega arith in
    record {
      number = elim c.if-j-pattern.branch [ then-j-pattern+then-from-p t ↦ omega arith | else-j-pattern t ↦ omega arith ];
      places = λ w B.
          let at = c.loop-p.invariant.places w B in
          elim c.if-j-pattern.branch [
            | then-j-pattern+then-from-p t ↦ rw (t.tables-is, t.j-is) (place_nohole B at inside c.requires.1 (omega arith) (omega arith) refl refl)
            | else-j-pattern t ↦ rw (t.tables-is, t.j-is) (place_hole B at inside c.requires.1
                (λ l q. elim t.else-j-pattern.branch [
                  | else-j-pattern-via-then-j-pattern+else-from-p u ↦ omega arith
                  | else-j-pattern-via-else-j-pattern u ↦ omega arith
                ]) refl refl)
          ];
    }

pub returns : goal.returns
returns c = λ w B. place_end B (c.loop-p.invariant.places w B) (omega arith) c.requires.1
