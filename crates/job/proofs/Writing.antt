-- Bytes put into a buffer one after the other. Assumes nothing.
use Prim.Native.Nat.{ℕ, ◌+◌, ◌≤◌}
use mathlib.Core.Path.{◌≡◌, refl, sym, ap, ◌∙◌}
use mathlib.Core.List.{List, [], ◌++◌, append_assoc}
use native.Mathlib.Nat.{add-zero}
use native.Mathlib.Omega.{arith}
use lib.ListN.{length, take, drop, length-append, length-drop, take-append-drop}
use lib.Seq.{length-take-le, take_at, drop_at, drop-drop}
use Rattle.job.specs.Internal.Writing.{Puts, Writes}
use Rattle.job.specs.declared.lines.Lines.{Lines}

-- ---- What a buffer holds once bytes are put into it

module _ {before after : List ℕ} {at : ℕ} {s : List ℕ} {r : ℕ} (P : Puts before after at s r) where
  front_length : length (take at before ++ s) ≡ r
  front_length =
      length-append (take at before) s ∙ omega (arith, length-take-le at before (omega (arith, P.place, P.inside)), P.place)

  split : after ≡ take at before ++ s ++ drop r before
  split = rw P.place (P.bytes ∙ sym (append_assoc (take at before) s (drop (at + length s) before)))

  front : take r after ≡ take at before ++ s
  front = rw split (take_at (take at before ++ s) (drop r before) r front_length)

  rest_kept : drop r after ≡ drop r before
  rest_kept = rw split (drop_at (take at before ++ s) (drop r before) r front_length)

  pub length_kept : length after ≡ length before
  length_kept =
      ap length split ∙ length-append (take at before ++ s) (drop r before) ∙ omega (arith, front_length, length-drop r before, P.inside)

-- ---- One after the other

puts_nothing : (l : List ℕ) (at : ℕ) → at ≤ length l → Puts l l at [] at
puts_nothing l at h = record {
  bytes = rw (add-zero at) (sym (take-append-drop at l));
  place = sym (add-zero at);
  inside = h;
}

puts_more : {x y z : List ℕ} {at : ℕ} {s t : List ℕ} {r q : ℕ} → Puts x y at s r → Puts y z r t q → Puts x z at (s ++ t) q
puts_more {x} {y} {z} {at} {s} {t} {r} {q} P Q = record {
  bytes = Q.bytes ∙ rw (front P, rest, length-append s t) joined;
  place = omega (arith, P.place, Q.place, length-append s t);
  inside = omega (arith, Q.inside, length_kept P);
}
  where
    rest : drop (r + length t) y ≡ drop (r + length t) x
    rest = sym (drop-drop (length t) r y) ∙ ap (drop (length t)) (rest_kept P) ∙ drop-drop (length t) r x

    joined : (take at x ++ s) ++ (t ++ drop (r + length t) x) ≡ take at x ++ ((s ++ t) ++ drop (at + (length s + length t)) x)
    joined = let e : at + (length s + length t) ≡ r + length t = omega (arith, P.place) in rw e (simp append_assoc)

pub writes_nothing : (l : Lines) → l.len ≤ length l.out.now → Writes l l []
writes_nothing l h = record { puts = puts_nothing l.out.now l.len h; same_buffer = refl }

pub writes_more : {x y z : Lines} {s t : List ℕ} → Writes x y s → Writes y z t → Writes x z (s ++ t)
writes_more P Q = record { puts = puts_more P.puts Q.puts; same_buffer = Q.same_buffer ∙ P.same_buffer }
