-- An input that is accepted is searched, and the list begins with what was found. Assumes nothing.
use Prim.Native.Nat.{ℕ, ◌≤◌}
use mathlib.Core.Path.{◌≡◌, refl, sym, ap, ◌∙◌}
use mathlib.Core.List.{List}
use native.Mathlib.Omega.{arith}
use lib.ListN.{length, drop, length-append}
use lib.Seq.{take-append_seam}
use Rattle.std.specs.Prelude.{Result, Ok, Err}
use Rattle.admission.specs.Admitted.{longest_text as longest_searched, admitted}
use Rattle.admission.proofs.Admitting.{admitted_of}
use Rattle.classes.specs.Classes.{identity}
use Rattle.intake.specs.Sizes.{scratch_size}
use Rattle.intake.specs.Outcomes.{Preparable}
use Rattle.intake.proofs.Outcomes.{identity_usable, ready_of}
use Rattle.input.specs.Parsed.{pattern_in, text_in, parsed, Accepted}
use Rattle.input.proofs.Cut.{pattern_cut, text_cut, pattern_cut_lem, text_cut_lem}
use Rattle.pattern.specs.Letters.{own_bytes, word_of}
use Rattle.pattern.specs.Built.{pattern_of, built, built_with}
use Rattle.pattern.specs.declared.Built.{Built}
use Rattle.pattern.specs.declared.Pattern.{Pattern}
use Rattle.pattern.proofs.Letters.{word_plain, text_plain}
use Rattle.preparation.specs.Prepared.{prepared}
use Rattle.preparation.proofs.Answers.{ready_answer}
use Rattle.checked.proofs.Again.{own_bytes_lem, prepared_again_lem}
use Rattle.checked.proofs.Checked.{own_classes, is_prepared_lem}
use Rattle.refusal.specs.Tests.{passed}
use Rattle.refusal.specs.declared.Refusal.{Refusal}
use Rattle.rules.specs.Rules.{End, no_cap}
use Rattle.rules.specs.Colussi.{colussi}
use Rattle.rules.specs.Report.{report_of, filled}
use Rattle.rules.specs.declared.Report.{Report}
use Rattle.search.specs.Answer.{answer_by, list_by}
use Rattle.search.proofs.Answers.{ran_answer, ran_list}
use Rattle.job.specs.Limits.{list_size}
use Rattle.job.specs.Printed.{refused_line, report_lines, search_lines, printed}
use Rattle.job.specs.Internal.Searching.{Tells}

-- ---- The lines of a search

lines_of_search : (s : End) → search_lines s ≡ report_lines s.ending (length s.last.made) s.last.found
unfolding search_lines
lines_of_search s = refl

-- A search for w tells what is printed, if that is its lines.
tells_lines : (input w lent : List ℕ) (s : End) → printed input ≡ search_lines s → Tells input (filled s lent) (Ok (report_of w s))
unfolding report_of filled
tells_lines input w lent s lines =
    let found : List ℕ = s.last.found in
    let rest : List ℕ = drop (length found) lent in
    (omega (arith, length-append found rest), rw (take-append_seam found rest) (lines ∙ lines_of_search s))

-- ---- A pattern that preparation takes

module _ (w : List ℕ) (preparable : Preparable w) where
  built_is : prepared w identity scratch_size ≡ Ok (built w identity)
  built_is = ready_answer w identity scratch_size (ready_of w identity scratch_size preparable identity_usable (omega arith))

  pub not_refused : {why : Refusal} → Err why ≡ prepared w identity scratch_size → ⊥
  not_refused e = let z : Err _ ≡ Ok (built w identity) = e ∙ built_is in cc

  pattern_is : {b : Built} → Ok b ≡ prepared w identity scratch_size → b.pattern ≡ pattern_of w identity
  unfolding built built_with pattern_of
  pattern_is {b = b} e = let z : b ≡ built w identity = (let q : Ok b ≡ Ok (built w identity) = e ∙ built_is in cc) in ap (λ (a : Built). a.pattern) z

  module _ {b : Built} (e : Ok b ≡ prepared w identity scratch_size) (t : List ℕ) (fits : length t ≤ longest_searched) where
    -- Its letters are the bytes, and the text's are the text.
    classes : b.pattern.classes ≡ identity
    classes = ap (λ (p : Pattern). p.classes) (pattern_is e) ∙ own_classes w identity

    letters : word_of b.pattern ≡ w
    letters = word_plain b.pattern classes ∙ ap own_bytes (pattern_is e) ∙ own_bytes_lem w identity

    let_in : admitted b.pattern (length t) ≡ passed
    let_in = admitted_of b.pattern (length t)
        record { prepared = (is_prepared_lem b.pattern).0 (rw (pattern_is e) (prepared_again_lem w identity preparable identity_usable)); fits = fits }

    -- What a search for it answers, and what it leaves in the list.
    runs : (cap : ℕ) (lent : List ℕ)
        → (answer_by colussi b.pattern t cap (length lent) ≡ Ok (report_of w (colussi w t cap (length lent))))
        × (list_by colussi b.pattern t cap lent ≡ filled (colussi w t cap (length lent)) lent)
    runs cap lent = (
      rw (letters, text_plain b.pattern classes t) at (ran_answer colussi b.pattern t cap lent let_in),
      rw (letters, text_plain b.pattern classes t) at (ran_list colussi b.pattern t cap lent let_in),
    )

-- ---- An input

module _ (input : List ℕ) where
  pub refuses : {why : Refusal} → Err why ≡ parsed input → printed input ≡ refused_line why
  unfolding printed
  refuses e = rw (sym e, printed) refl

  module _ {len : ℕ} (accepted : Accepted input len) where
    -- Preparation takes its pattern.
    pub may_prepare : Preparable (pattern_cut input len)
    may_prepare = rw (pattern_cut_lem input len accepted.first) accepted.preparable

    fits : length (text_cut input len) ≤ longest_searched
    fits = omega (arith, ap length (text_cut_lem input len accepted.first), accepted.fits)

    searches_parts : Ok len ≡ parsed input → printed input ≡ search_lines (colussi (pattern_in input) (text_in input) no_cap list_size)
    unfolding printed
    searches_parts e = rw (sym e, printed) refl

    searches : Ok len ≡ parsed input → printed input ≡ search_lines (colussi (pattern_cut input len) (text_cut input len) no_cap list_size)
    searches e = rw (pattern_cut_lem input len accepted.first, text_cut_lem input len accepted.first) (searches_parts e)

    -- What the search for the pattern just prepared answers in its text, with a list of list_size entries, tells what is printed.
    pub tells : Ok len ≡ parsed input → {b : Built} → Ok b ≡ prepared (pattern_cut input len) identity scratch_size
        → (lent : List ℕ) → length lent ≡ list_size → {r : Result Report Refusal} {after : List ℕ}
        → r ≡ answer_by colussi b.pattern (text_cut input len) no_cap (length lent)
        → after ≡ list_by colussi b.pattern (text_cut input len) no_cap lent → Tells input after r
    tells e ready lent size answer list =
        let w = pattern_cut input len in
        let t = text_cut input len in
        let R = runs w may_prepare ready t fits no_cap lent in
        rw (answer ∙ R.0, list ∙ R.1) (tells_lines input w lent (colussi w t no_cap (length lent)) (rw size (searches e)))
