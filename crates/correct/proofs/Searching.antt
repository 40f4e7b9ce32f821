-- The search of the part that covers the place runs to its end, and finds the occurrences that cover it. Assumes nothing.
use Prim.Native.Nat.{ℕ, zero, suc, ◌+◌, ◌-◌, ◌*◌, ◌≤◌, ◌<◌, min}
use mathlib.Core.Path.{◌≡◌, refl, sym, ap, ◌∙◌}
use mathlib.Core.List.{List, [], ◌∷◌, map}
use native.Mathlib.Omega.{arith}
use lib.ListN.{length, take, drop}
use lib.Seq.{length-take-le}
use Rattle.words.proofs.Numbers.{count_le}
use Rattle.words.proofs.Listing.{length_ascending}
use Rattle.std.specs.Prelude.{Result, Ok, Err}
use Rattle.admission.specs.Admitted.{longest_text, admitted}
use Rattle.admission.proofs.Admitting.{admitted_is}
use Rattle.checked.specs.Check.{IsPrepared}
use Rattle.checked.proofs.Reading.{Fields, fields_of}
use Rattle.classes.specs.Classes.{through, class_of}
use Rattle.intake.specs.Sizes.{longest_pattern}
use Rattle.lists.specs.Lists.{moved}
use Rattle.pattern.specs.Letters.{word_of, text_of}
use Rattle.pattern.specs.declared.Pattern.{Pattern}
use Rattle.pattern.proofs.Letters.{length_text}
use Rattle.refusal.specs.Tests.{Tested, passed}
use Rattle.refusal.specs.declared.Refusal.{Refusal}
use Rattle.rules.specs.Colussi.{colussi}
use Rattle.rules.specs.Occurs.{occurs, occurrences_below}
use Rattle.rules.specs.Rules.{no_cap}
use Rattle.rules.specs.declared.Ending.{Ending}
use Rattle.rules.specs.declared.Ending.TheVariants.{Done, Spent, Full}
use Rattle.rules.specs.declared.Report.{Report}
use Rattle.search.specs.Answer.{answer_by}
use Rattle.search.specs.Promise.{Located, UnderCeiling}
use Rattle.search.proofs.Answers.{refused, ran_answer}
use Rattle.update.specs.Update.{covering, updated}
use Rattle.update.proofs.Parts.{part, length_part}
use Rattle.update.proofs.Covering.{first_window, past_window, covering_part}
use Rattle.update.proofs.Joining.{updated_within}
use Rattle.correct.specs.Internal.{IsAround, Small, replaced, Joined}
use Rattle.correct.specs.declared.windows.Part.{Part}
use Rattle.correct.proofs.Answers.{door_of_part}

-- ---- The letters of a part are the part of the letters

map_take : (f : ℕ → ℕ) (k : ℕ) (l : List ℕ) → map f (take k l) ≡ take k (map f l)
map_take f zero l = refl
map_take f (suc k) [] = refl
map_take f (suc k) (x ∷ l) = ap (λ (r : List ℕ). f x ∷ r) (map_take f k l)

map_drop : (f : ℕ → ℕ) (k : ℕ) (l : List ℕ) → map f (drop k l) ≡ drop k (map f l)
map_drop f zero l = refl
map_drop f (suc k) [] = refl
map_drop f (suc k) (x ∷ l) = map_drop f k l

text_part : (p : Pattern) (a e : ℕ) (t : List ℕ) → text_of p (part a e t) ≡ part a e (text_of p t)
unfolding text_of through
text_part p a e t = map_take (class_of p.classes) (e - a) (drop a t) ∙ ap (take (e - a)) (map_drop (class_of p.classes) a t)

-- ---- What its answer tells of the door

module _ (p : Pattern) (t : List ℕ) (cap : ℕ) (lent : List ℕ) where
  abbrev told : Result Report Refusal
  told = answer_by colussi p t cap (length lent)

  ran_admitted : {report : Report} → told ≡ Ok report → admitted p (length t) ≡ passed
  ran_admitted {report} e = at (admitted p (length t)) refl
    where
      at : (a : Tested) → admitted p (length t) ≡ a → admitted p (length t) ≡ passed
      at (Ok tt) f = f
      at (Err why) f = let g = (refused colussi p t cap lent f).answer in absurd (let z : ◌≡◌ {A = ℕ} 0 1 = cc in omega arith)

  refused_admitted : {why : Refusal} → told ≡ Err why → admitted p (length t) ≡ Err why
  refused_admitted {why} e = at (admitted p (length t)) refl
    where
      at : (a : Tested) → admitted p (length t) ≡ a → admitted p (length t) ≡ Err why
      at (Ok tt) f = let g = ran_answer colussi p t cap lent f in absurd (let z : ◌≡◌ {A = ℕ} 0 1 = cc in omega arith)
      at (Err first) f = let g = (refused colussi p t cap lent f).answer in let same : first ≡ why = cc in f ∙ ap Err same

-- ---- What it finds

length_below : (b : ℕ) (w t : List ℕ) → length (occurrences_below b w t) ≤ b
unfolding occurrences_below
length_below b w t = omega (arith, length_ascending (occurs w t) b, count_le b (occurs w t))

module _ (p : Pattern) (t : List ℕ) (place : ℕ) (r : Part) (within : place < length t) (fits : length t ≤ longest_text)
    (A : IsAround p.len (length t) place r) where
  -- The part that is searched.
  abbrev cut : List ℕ
  cut = part r.start r.end t

  cut_length : length cut ≡ r.end - r.start
  cut_length = length_part t r.start r.end A.from A.upto

  cut_fits : length cut ≤ longest_text
  cut_fits = omega (arith, cut_length, A.upto)

  module _ (prepared : IsPrepared p) where
    fields : Fields p
    fields = fields_of p prepared

    -- It is shorter than two patterns.
    cut_short : length cut < 2 * length (word_of p)
    cut_short = short r.start r.end p.len (A.start_is fields.some) (A.end_is fields.some) cut_length fields.word fields.some
      where
        short : (s e m : ℕ) → s ≡ suc place - m → e ≡ min (length t) (place + m) → length cut ≡ e - s → length (word_of p) ≡ m → 1 ≤ m
            → length cut < 2 * length (word_of p)
        short s e m a b c d f = omega arith

    -- So it is neither spent nor full.
    module _ (list : List ℕ) (room : length list ≡ longest_pattern) (report : Report) (L : Located colussi (word_of p) (text_of p cut) no_cap list report)
        (U : UnderCeiling (length (word_of p)) (length cut) report) where
      size : length (text_of p cut) ≡ length cut
      size = length_text p cut

      runs_out : (e : Ending) → report.ending ≡ e → report.ending ≡ Done
      runs_out Done e = e
      runs_out (Spent b) e =
          let C = rw e at L.cut_off in
          let under = rw e at U in
          absurd (omega (arith, C.0, C.2, under, size, cut_fits))
      runs_out (Full b) e =
          let C = rw e at L.cut_off in
          let F = rw e at L.exactly in
          absurd (omega (
            arith,
            C.0.inside,
            C.2,
            room,
            ap length F,
            length-take-le report.written list (omega (arith, C.2)),
            length_below b (word_of p) (text_of p cut),
            size,
            cut_short,
            fields.word,
            fields.short,
          ))

      done : report.ending ≡ Done
      done = runs_out report.ending refl

      found_room : report.written ≤ length list
      found_room = (rw done at L.cut_off).1

      start_is : r.start ≡ first_window (length (word_of p)) place
      start_is = A.start_is fields.some ∙ ap (λ (m : ℕ). first_window m place) (sym fields.word)

      past_is : r.past ≡ past_window (length (word_of p)) (length (text_of p t)) place
      past_is = past_as p.len (length t) (A.past_is fields.some) fields.word (length_text p t)
        where
          past_as : (m n : ℕ) → r.past ≡ past_window m n place → length (word_of p) ≡ m → length (text_of p t) ≡ n
              → r.past ≡ past_window (length (word_of p)) (length (text_of p t)) place
          past_as m n e f g = rw (f, g) e

      part_order : r.start ≤ r.past
      part_order = omega (arith, start_is, past_is, length_text p t)

      -- The positions found, moved by the part's start, are the occurrences that cover the place.
      found_is : moved r.start (take report.written list) ≡ covering (word_of p) (text_of p t) place
      found_is =
          let F = rw done at L.exactly in
          let e : r.end ≡ min (length (text_of p t)) (place + length (word_of p)) = end_as p.len (length t) (A.end_is fields.some) fields.word (length_text p t) in
          let within' : place < length (text_of p t) = omega (arith, length_text p t) in
          let some' : 1 ≤ length (word_of p) = omega (arith, fields.word, fields.some) in
          rw (F, text_part p r.start r.end t, start_is, e) (sym (covering_part (word_of p) (text_of p t) place some' within'))
        where
          end_as : (m n : ℕ) → r.end ≡ min n (place + m) → length (word_of p) ≡ m → length (text_of p t) ≡ n
              → r.end ≡ min (length (text_of p t)) (place + length (word_of p))
          end_as m n e f g = rw (f, g) e

      found_small : Small r.start (take report.written list)
      found_small i l =
          let O = L.lists.occur i l in
          omega (arith, O.inside, size, cut_length, A.from, A.upto)

-- What is known once the search of the part has run: who is let in, and what was found.
pub record Found (p : Pattern) (t : List ℕ) (place : ℕ) (r : Part) (report : Report) (list : List ℕ) : Type 0 where
  pub lets_in : admitted p (length t) ≡ passed
  pub room : report.written ≤ length list
  pub order : r.start ≤ r.past
  pub small : Small r.start (take report.written list)
  pub is : moved r.start (take report.written list) ≡ covering (word_of p) (text_of p t) place
  pub start : r.start ≡ first_window (length (word_of p)) place
  pub past : r.past ≡ past_window (length (word_of p)) (length (text_of p t)) place

module _ (p : Pattern) (t : List ℕ) (place : ℕ) (r : Part) (within : place < length t) (fits : length t ≤ longest_text)
    (A : IsAround p.len (length t) place r) where
  same_door : admitted p (length (part r.start r.end t)) ≡ admitted p (length t)
  same_door = door_of_part p _ (length t) (cut_fits p t place r within fits A) fits

  pub found_by : (lent : List ℕ) {report : Report} {list : List ℕ} → length list ≡ longest_pattern
      → Ok report ≡ answer_by colussi p (part r.start r.end t) no_cap (length lent)
      → Located colussi (word_of p) (text_of p (part r.start r.end t)) no_cap list report
      → UnderCeiling (length (word_of p)) (length (part r.start r.end t)) report → Found p t place r report list
  found_by lent {report} {list} room e L U =
      let a = ran_admitted p (part r.start r.end t) no_cap lent (sym e) in
      let G = (admitted_is p _ a).prepared in
      record {
        lets_in = sym same_door ∙ a;
        room = found_room p t place r within fits A G list room report L U;
        order = part_order p t place r within fits A G list room report L U;
        small = found_small p t place r within fits A G list room report L U;
        is = found_is p t place r within fits A G list room report L U;
        start = start_is p t place r within fits A G list room report L U;
        past = past_is p t place r within fits A G list room report L U;
      }

  pub not_by : (lent : List ℕ) {why : Refusal} → Err why ≡ answer_by colussi p (part r.start r.end t) no_cap (length lent)
      → admitted p (length t) ≡ Err why
  not_by lent e = sym same_door ∙ refused_admitted p (part r.start r.end t) no_cap lent (sym e)

-- What is found, joined with the entries kept, is the list brought up to date.
pub joined_is : (p : Pattern) (t : List ℕ) (place : ℕ) (r : Part) (report : Report) (list lent : List ℕ) (used : ℕ) {after : List ℕ}
    {answer : Result ℕ Refusal}
    → place < length t → Found p t place r report list
    → (J : Joined lent used r.start r.past (moved r.start (take report.written list)) after answer)
    → replaced (take used lent) J.low J.high (moved r.start (take report.written list)) ≡ updated (word_of p) (text_of p t) place (take used lent)
joined_is p t place r report list lent used within F J =
    rw F.is (sym (updated_within (word_of p) (text_of p t) place (take used lent) (omega (arith, length_text p t)) J.low J.high
    (rw F.start at J.at_start) (rw F.past at J.at_past)))
