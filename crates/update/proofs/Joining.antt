-- The list brought up to date, as it is put together: the entries below the first window that covers the place, the occurrences found, and the
-- entries above the last. Assumes nothing.
use Prim.Native.Nat.{ℕ, ◌≤◌, ◌<◌}
use mathlib.Core.Path.{◌≡◌, ap, ◌∙◌}
use mathlib.Core.List.{List, ◌++◌}
use native.Mathlib.Omega.{arith}
use lib.ListN.{length, take, drop}
use Rattle.lists.specs.Lists.{merged, Splits}
use Rattle.lists.proofs.Keeping.{keeps_all}
use Rattle.lists.proofs.Bounds.{splits_order, taken_below, dropped_from, keep_outside}
use Rattle.lists.proofs.Merging.{merged_between, merged_none}
use Rattle.update.specs.Update.{covering, updated}
use Rattle.update.proofs.Covering.{apart_of, first_window, past_window, windows_order, between_of, outside, none_covers, covering_ascends, covering_is}

module _ (w t : List ℕ) (place : ℕ) (l : List ℕ) where
  pub updated_within : place < length t → (low high : ℕ) → Splits l (first_window (length w) place) low → Splits l (past_window (length w) (length t) place) high
      → updated w t place l ≡ take low l ++ (covering w t place ++ drop high l)
  unfolding updated
  updated_within within low high S T =
      let o = splits_order l _ _ low high (windows_order (length w) (length t) place within) S T in
      ap (merged (covering w t place)) (keep_outside _ _ _ (outside (length w) (length t) place) l low high o S T)
      ∙ merged_between (covering w t place) (take low l) (drop high l) (covering_ascends w t place)
      (λ x y h g. omega (arith, (between_of _ _ _ (covering_is w t place h).0).0, taken_below l _ low S g))
      (λ x y h g. omega (arith, (between_of _ _ _ (covering_is w t place h).0).1, dropped_from l _ high T g))

  -- A place at or past the text's end changes nothing.
  pub updated_outside : length t ≤ place → updated w t place l ≡ l
  unfolding updated
  updated_outside past =
      merged_none (covering w t place) _ (λ x h. none_covers _ _ _ x past (covering_is w t place h).0)
      ∙ keeps_all _ l (λ x. apart_of (length w) (length t) place x (none_covers _ _ _ x past))
