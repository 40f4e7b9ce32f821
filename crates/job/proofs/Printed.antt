-- The printed lines: the positions' lines one by one, and those of a report. Assumes nothing.
use Prim.Native.Nat.{ℕ, ◌+◌, ◌<◌}
use mathlib.Core.Path.{◌≡◌, refl, sym, ap, ◌∙◌}
use mathlib.Core.List.{List, [], ◌∷◌, ◌++◌, append_assoc, append-nil}
use native.Mathlib.Numerals.{add-one}
use lib.ListN.{length, get_or, take}
use lib.Seq.{take-suc}
use Rattle.rules.specs.declared.Ending.{Ending}
use Rattle.charge.specs.Charged.{charged}
use Rattle.job.specs.Text.{ascii, decimal}
use Rattle.job.specs.Printed.{line, ending_line, position_lines, report_lines}

-- ---- The positions' lines

lines_more : (ps : List ℕ) (p : ℕ) → position_lines (ps ++ (p ∷ [])) ≡ position_lines ps ++ (decimal p ++ ascii "\n")
unfolding position_lines
lines_more [] p = append-nil (decimal p ++ ascii "\n")
lines_more (q ∷ ps) p =
    ap (λ (l : List ℕ). (decimal q ++ ascii "\n") ++ l) (lines_more ps p)
    ∙ sym (append_assoc (decimal q ++ ascii "\n") (position_lines ps) (decimal p ++ ascii "\n"))

-- Of one position more.
pub next_position : (ps : List ℕ) (k : ℕ) → k < length ps
    → position_lines (take (k + 1) ps) ≡ position_lines (take k ps) ++ (decimal (get_or ps k 0) ++ ascii "\n")
next_position ps k h = rw (add-one k, take-suc ps k 0 h) (lines_more (take k ps) (get_or ps k 0))

-- ---- A report

lines_of_report : (e : Ending) (count : ℕ) (ps : List ℕ)
    → report_lines e count ps
    ≡ ending_line e ++ (line "count " count ++ (line "charge " (charged count) ++ (line "places " (length ps) ++ position_lines ps)))
unfolding report_lines
lines_of_report e count ps = refl

-- With the charge and the number of positions as they were computed.
pub report_parts : (e : Ending) (count : ℕ) (ps : List ℕ) {charge places : ℕ} → charge ≡ charged count → places ≡ length ps
    → report_lines e count ps
    ≡ ending_line e ++ (line "count " count ++ (line "charge " charge ++ (line "places " places ++ position_lines ps)))
report_parts e count ps q r = rw (q, r) (lines_of_report e count ps)
