-- The promises in plain terms, as laws of what a search answers. Assumes nothing.
use Prim.Native.Nat.{ℕ, ◌≤◌, ◌<◌}
use mathlib.Core.Path.{◌≡◌, refl, sym, ◌∙◌}
use mathlib.Core.List.{List, ◌++◌}
use native.Mathlib.Omega.{arith}
use lib.ListN.{length, get_or, take, drop, length-append, length-drop, get_or-append}
use lib.Seq.{take-append_seam}
use Rattle.admission.specs.Admitted.{IsAdmitted}
use Rattle.classes.specs.Classes.{identity, OccursBy}
use Rattle.pattern.specs.Letters.{own_bytes, word_of, text_of}
use Rattle.pattern.specs.declared.Pattern.{Pattern}
use Rattle.pattern.proofs.Letters.{length_text}
use Rattle.checked.specs.Check.{IsPrepared}
use Rattle.checked.proofs.Reading.{fields_of}
use Rattle.std.specs.Prelude.{Result, IfOk}
use Rattle.rules.specs.Rules.{End, Search}
use Rattle.rules.specs.Colussi.{colussi}
use Rattle.rules.specs.Kmp.{kmp}
use Rattle.rules.specs.Occurs.{Occurs, CoversNo}
use Rattle.rules.specs.Promise.{CutOff}
use Rattle.rules.specs.Report.{report_of, filled, Columns}
use Rattle.refusal.specs.declared.Refusal.{Refusal}
use Rattle.rules.specs.declared.Report.{Report}
use Rattle.rules.specs.declared.Ending.{Ending}
use Rattle.rules.specs.declared.Ending.TheVariants.{Done, Spent, Full}
use Rattle.rules.proofs.Columns.{columns_sum}
use Rattle.rules.proofs.Method.{Finds}
use Rattle.rules.proofs.ColussiMethod.{colussi_finds}
use Rattle.rules.proofs.ColussiCeiling.{colussi_ceiling}
use Rattle.rules.proofs.KmpMethod.{kmp_finds, kmp_ceiling}
use Rattle.rules.proofs.SamePositions.{same_positions}
use Rattle.search.specs.Answer.{answer_by, list_by, plain_answer_by, plain_list_by}
use Rattle.search.specs.Promise.{Located, ListedBy, UnderCeiling, UnderKmpCeiling, AsColussi, NoZeroCovered}
use Rattle.search.proofs.Classes.{occurs_by, occurs_through, covers_no_zero}
use Rattle.search.proofs.Answers.{Answers, plain, promised}

-- The list begins with the positions found.
pub begins_with_found : (w : List ℕ) (s : End) (lent : List ℕ) → take (report_of w s).written (filled s lent) ≡ s.last.found
unfolding report_of filled
begins_with_found w s lent = take-append_seam s.last.found (drop (length s.last.found) lent)

module _ (search : Search) (w t : List ℕ) (cap : ℕ) (lent : List ℕ) where
  -- No search writes more positions than the list has entries.
  room : (e : Ending) (c k : ℕ) → CutOff search w t cap (length lent) e c k → k ≤ length lent
  room Done c k C = C.1
  room (Spent b) c k C = C.3
  room (Full b) c k C = omega (arith, C.2)

  -- Demand 2.
  pub located : Finds search w t cap (length lent)
      → Located search w t cap (filled (search w t cap (length lent)) lent) (report_of w (search w t cap (length lent)))
  unfolding report_of filled
  located F =
      let s : End = search w t cap (length lent) in
      let found : List ℕ = s.last.found in
      let size : length (found ++ drop (length found) lent) ≡ length lent =
      length-append found (drop (length found) lent)
      ∙ omega (arith, length-drop (length found) lent, room s.ending (length s.last.made) (length found) F.cut_off) in
      record {
        exactly = take-append_seam found (drop (length found) lent) ∙ F.exactly;
        lists = rw (take-append_seam found (drop (length found) lent)) F.lists;
        cut_off = rw size F.cut_off;
      }

-- Document 02, C-16: the columns.
pub in_columns : (w : List ℕ) (s : End) → Columns w s.last.made (report_of w s)
unfolding report_of
in_columns w s = record { noholes = refl; holes = refl; sum = sym (columns_sum w s.last.made) }

-- Document 02, C-13: an occurrence of a prepared pattern covers no place where the text holds 0.
pub occurrence_covers_no_zero : (p : Pattern) (t : List ℕ) (b : ℕ) → IsPrepared p → Occurs (word_of p) (text_of p t) b → CoversNo 0 (length (word_of p)) t b
unfolding word_of text_of
occurrence_covers_no_zero p t b G O =
    let F = fields_of p G in
    covers_no_zero p.classes (own_bytes p) t b F.usable F.no_zero O

module _ (p : Pattern) (t : List ℕ) where
  -- A pattern that is let in has a letter.
  pub some_letter : IsAdmitted p (length t) → 1 ≤ length (word_of p)
  some_letter I = let F = fields_of p I.prepared in omega (arith, F.some, F.word)

  -- Where it occurs, in terms of bytes.
  pub bytes_occur : (x : ℕ) → Occurs (word_of p) (text_of p t) x → OccursBy p.classes (own_bytes p) t x
  unfolding word_of text_of
  bytes_occur x O = occurs_by p.classes (own_bytes p) t x O

  pub letters_occur : (x : ℕ) → OccursBy p.classes (own_bytes p) t x → Occurs (word_of p) (text_of p t) x
  unfolding word_of text_of
  letters_occur x O = occurs_through p.classes (own_bytes p) t x O

module _ (p : Pattern) (t : List ℕ) (cap : ℕ) (lent : List ℕ) where
  -- No occurrence that a search lists covers a 0.
  pub no_zero_covered : (search : Search) → IsAdmitted p (length t) → Finds search (word_of p) (text_of p t) cap (length lent)
      → NoZeroCovered (length (word_of p)) t (filled (search (word_of p) (text_of p t) cap (length lent)) lent)
      (report_of (word_of p) (search (word_of p) (text_of p t) cap (length lent)))
  unfolding report_of filled
  no_zero_covered search I F i l =
      let found : List ℕ = (search (word_of p) (text_of p t) cap (length lent)).last.found in
      rw (get_or-append found (drop (length found) lent) 0 i l) (occurrence_covers_no_zero p t (get_or found i 0) I.prepared (F.lists.occur i l))

  -- What it lists, in terms of bytes.
  pub listed_by : (search : Search) → Finds search (word_of p) (text_of p t) cap (length lent)
      → ListedBy p.classes (own_bytes p) t (filled (search (word_of p) (text_of p t) cap (length lent)) lent)
      (report_of (word_of p) (search (word_of p) (text_of p t) cap (length lent)))
  unfolding report_of filled
  listed_by search F =
      let found : List ℕ = (search (word_of p) (text_of p t) cap (length lent)).last.found in
      let at : (i : ℕ) → i < length found → get_or (found ++ drop (length found) lent) i 0 ≡ get_or found i 0 =
      λ i l. get_or-append found (drop (length found) lent) 0 i l in
      record {
        occur = λ i l. rw (at i l) (bytes_occur p t (get_or found i 0) (F.lists.occur i l));
        all = λ x h O.
            let one = F.lists.all x h (letters_occur p t x O) in
            (one.0, one.1, at one.0 one.1 ∙ one.2);
      }

  -- What `colussi` ensures of its answer and its list.
  pub record ColussiPromises (r : Result Report Refusal) (after : List ℕ) : Type 0 where
    pub answer : r ≡ answer_by colussi p t cap (length lent)
    pub list : after ≡ list_by colussi p t cap lent
    pub accurate : IfOk r (Located colussi (word_of p) (text_of p t) cap after)
    pub classed : IfOk r (ListedBy p.classes (own_bytes p) t after)
    pub columns : IfOk r (Columns (word_of p) (colussi (word_of p) (text_of p t) cap (length lent)).last.made)
    pub ceiling : IfOk r (UnderCeiling (length (word_of p)) (length t))
    pub zeros : IfOk r (NoZeroCovered (length (word_of p)) t after)
    pub plain : p.classes ≡ identity → (r ≡ plain_answer_by colussi p t cap (length lent)) × (after ≡ plain_list_by colussi p t cap lent)

  pub colussi_promises : {r : Result Report Refusal} {after : List ℕ} → Answers colussi p t cap lent r after → ColussiPromises r after
  colussi_promises {r} {after} A =
      let letter = some_letter p t in
      let finds : (I : IsAdmitted p (length t)) → Finds colussi (word_of p) (text_of p t) cap (length lent) =
      λ I. colussi_finds (word_of p) (text_of p t) (letter I) cap (length lent) in
      record {
        answer = A.answer;
        list = A.list;
        accurate = promised colussi p t cap lent (Located colussi (word_of p) (text_of p t) cap)
            (λ I. located colussi (word_of p) (text_of p t) cap lent (finds I)) A;
        classed = promised colussi p t cap lent (ListedBy p.classes (own_bytes p) t) (λ I. listed_by colussi (finds I)) A;
        columns = promised colussi p t cap lent (λ after r. Columns (word_of p) (colussi (word_of p) (text_of p t) cap (length lent)).last.made r)
            (λ I. in_columns (word_of p) (colussi (word_of p) (text_of p t) cap (length lent))) A;
        ceiling = promised colussi p t cap lent (λ after r. UnderCeiling (length (word_of p)) (length t) r)
            (λ I. unfold report_of in rw (length_text p t) at (colussi_ceiling (word_of p) (text_of p t) (letter I) cap (length lent))) A;
        zeros = promised colussi p t cap lent (NoZeroCovered (length (word_of p)) t) (λ I. no_zero_covered colussi I (finds I)) A;
        plain = λ e. plain colussi p t cap lent e A;
      }

  -- What `kmp` ensures of its answer and its list.
  pub record KmpPromises (r : Result Report Refusal) (after : List ℕ) : Type 0 where
    pub answer : r ≡ answer_by kmp p t cap (length lent)
    pub list : after ≡ list_by kmp p t cap lent
    pub accurate : IfOk r (Located kmp (word_of p) (text_of p t) cap after)
    pub classed : IfOk r (ListedBy p.classes (own_bytes p) t after)
    pub columns : IfOk r (Columns (word_of p) (kmp (word_of p) (text_of p t) cap (length lent)).last.made)
    pub ceiling : IfOk r (UnderKmpCeiling (length (word_of p)) (length t))
    pub same : IfOk r (AsColussi (word_of p) (text_of p t) after)
    pub zeros : IfOk r (NoZeroCovered (length (word_of p)) t after)
    pub plain : p.classes ≡ identity → (r ≡ plain_answer_by kmp p t cap (length lent)) × (after ≡ plain_list_by kmp p t cap lent)

  pub kmp_promises : {r : Result Report Refusal} {after : List ℕ} → Answers kmp p t cap lent r after → KmpPromises r after
  kmp_promises {r} {after} A =
      let letter = some_letter p t in
      let finds : (I : IsAdmitted p (length t)) → Finds kmp (word_of p) (text_of p t) cap (length lent) =
      λ I. kmp_finds (word_of p) (text_of p t) (letter I) cap (length lent) in
      record {
        answer = A.answer;
        list = A.list;
        accurate = promised kmp p t cap lent (Located kmp (word_of p) (text_of p t) cap)
            (λ I. located kmp (word_of p) (text_of p t) cap lent (finds I)) A;
        classed = promised kmp p t cap lent (ListedBy p.classes (own_bytes p) t) (λ I. listed_by kmp (finds I)) A;
        columns = promised kmp p t cap lent (λ after r. Columns (word_of p) (kmp (word_of p) (text_of p t) cap (length lent)).last.made r)
            (λ I. in_columns (word_of p) (kmp (word_of p) (text_of p t) cap (length lent))) A;
        ceiling = promised kmp p t cap lent (λ after r. UnderKmpCeiling (length (word_of p)) (length t) r)
            (λ I. unfold report_of in rw (length_text p t) at (kmp_ceiling (word_of p) (text_of p t) (letter I) cap (length lent))) A;
        same = promised kmp p t cap lent (AsColussi (word_of p) (text_of p t))
            (λ I done cap' size' done'. begins_with_found (word_of p) (kmp (word_of p) (text_of p t) cap (length lent)) lent
            ∙ sym (same_positions (word_of p) (text_of p t) (letter I) cap' size' cap (length lent) done' (unfold report_of in done))) A;
        zeros = promised kmp p t cap lent (NoZeroCovered (length (word_of p)) t) (λ I. no_zero_covered kmp I (finds I)) A;
        plain = λ e. plain kmp p t cap lent e A;
      }
