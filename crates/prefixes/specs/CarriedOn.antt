-- Document 02, C-14: the comparisons of Knuth, Morris and Pratt, carried on until the window and the matched length reach the text's end, also
-- where the text is shorter than the pattern.
use Rattle.std.specs.Prelude.{ℕ, suc, ◌+◌, ◌-◌, ◌*◌, List, ltb}
use Rattle.std.proofs.Math.Bool.{true, false}
use Rattle.std.proofs.Math.ListN.{length}
use Rattle.rules.specs.Rules.{State, start, Turn, stop, go, leave, agree, matched, missed, text_source, End, turns}
use Rattle.rules.specs.Kmp.{kmp_shift, kmp_plan}
use Rattle.rules.specs.declared.Ending.TheVariants.{Done}

module _ (w t : List ℕ) where
  -- One turn, while b + i is below n, by KMP's own rules: a comparison at i below m, which moves i on or leaves the window; and from i = m the
  -- window is left. It is not listed, and there is no cap.
  unfoldable pub turn_on : State → Turn
  unfolding agree matched missed leave kmp_shift
  turn_on s = elim (ltb (s.window + s.rank) (length t)) [
    | true ↦ go (elim (ltb s.rank (length w)) [
      | true ↦ elim (agree (kmp_plan w) (text_source w t) s) [ true ↦ matched (kmp_plan w) s | false ↦ missed (kmp_plan w) s ]
      | false ↦ leave (kmp_plan w) s.rank s
    ])
    | false ↦ stop Done
  ]

  -- The turns that can be left: each brings 2b + i up, and it is below 2n.
  abbrev pub left_on : State → ℕ
  left_on s = 2 * length t - (2 * s.window + s.rank)

  -- All turns from a state. One more than can be left are enough, for a pattern with a letter: the rules end the run, and not the number of
  -- turns (`on_stops`).
  unfoldable pub rest_on : State → End
  unfolding turns turn_on
  rest_on s = turns turn_on (suc (left_on s)) s

  -- All turns from the start.
  unfoldable pub carried_on : End
  unfolding rest_on
  carried_on = rest_on start

  -- The count. What is not compared costs nothing.
  unfoldable pub comparisons : ℕ
  unfolding carried_on
  comparisons = length carried_on.last.made
