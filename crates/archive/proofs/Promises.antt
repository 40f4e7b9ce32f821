-- What the searches of one record ensure, from the promises of the searches. Assumes nothing.
use Prim.Native.Nat.{ℕ}
use mathlib.Core.Path.{◌≡◌, refl}
use mathlib.Core.List.{List}
use lib.ListN.{length}
use Rattle.std.specs.Prelude.{Option, Result}
use Rattle.classes.specs.Classes.{identity}
use Rattle.directory.specs.Archive.{record_of}
use Rattle.pattern.specs.Letters.{own_bytes, word_of, text_of}
use Rattle.pattern.specs.declared.Pattern.{Pattern}
use Rattle.refusal.specs.declared.Refusal.{Refusal}
use Rattle.rules.specs.Colussi.{colussi}
use Rattle.rules.specs.Kmp.{kmp}
use Rattle.rules.specs.Report.{Columns}
use Rattle.rules.specs.declared.Report.{Report}
use Rattle.search.specs.Promise.{Located, ListedBy, UnderCeiling, UnderKmpCeiling, AsColussi, NoZeroCovered}
use Rattle.search.proofs.Promises.{colussi_promises, kmp_promises}
use Rattle.archive.specs.Answer.{answer_by, list_by, plain_answer_by, plain_list_by}
use Rattle.archive.specs.Promise.{IfRan}
use Rattle.archive.proofs.Answers.{Answers, promised, plain}

module _ (p : Pattern) (a : List ℕ) (r cap : ℕ) (lent : List ℕ) where
  abbrev w : List ℕ
  w = word_of p

  -- The record's bytes, and their letters.
  abbrev bytes : List ℕ
  bytes = record_of a r

  abbrev t : List ℕ
  t = text_of p bytes

  pub colussi_record_promises : {x : Result (Option Report) Refusal} {after : List ℕ} → Answers colussi p a r cap lent x after → record {
    answer : x ≡ answer_by colussi p a r cap (length lent);
    list : after ≡ list_by colussi p a r cap lent;
    accurate : IfRan (Located colussi w t cap after) x;
    classed : IfRan (ListedBy p.classes (own_bytes p) bytes after) x;
    columns : IfRan (Columns w (colussi w t cap (length lent)).last.made) x;
    ceiling : IfRan (UnderCeiling (length w) (length bytes)) x;
    zeros : IfRan (NoZeroCovered (length w) bytes after) x;
    plain : p.classes ≡ identity → (x ≡ plain_answer_by colussi p a r cap (length lent)) × (after ≡ plain_list_by colussi p a r cap lent);
  }
  colussi_record_promises A =
      let alone = colussi_promises p bytes cap lent record { answer = refl; list = refl } in
      record {
        answer = A.answer;
        list = A.list;
        accurate = promised colussi p a r cap lent (Located colussi w t cap) alone.accurate A;
        classed = promised colussi p a r cap lent (ListedBy p.classes (own_bytes p) bytes) alone.classed A;
        columns = promised colussi p a r cap lent (λ after. Columns w (colussi w t cap (length lent)).last.made) alone.columns A;
        ceiling = promised colussi p a r cap lent (λ after. UnderCeiling (length w) (length bytes)) alone.ceiling A;
        zeros = promised colussi p a r cap lent (NoZeroCovered (length w) bytes) alone.zeros A;
        plain = λ e. plain colussi p a r cap lent e A;
      }

  pub kmp_record_promises : {x : Result (Option Report) Refusal} {after : List ℕ} → Answers kmp p a r cap lent x after → record {
    answer : x ≡ answer_by kmp p a r cap (length lent);
    list : after ≡ list_by kmp p a r cap lent;
    accurate : IfRan (Located kmp w t cap after) x;
    classed : IfRan (ListedBy p.classes (own_bytes p) bytes after) x;
    columns : IfRan (Columns w (kmp w t cap (length lent)).last.made) x;
    ceiling : IfRan (UnderKmpCeiling (length w) (length bytes)) x;
    same : IfRan (AsColussi w t after) x;
    zeros : IfRan (NoZeroCovered (length w) bytes after) x;
    plain : p.classes ≡ identity → (x ≡ plain_answer_by kmp p a r cap (length lent)) × (after ≡ plain_list_by kmp p a r cap lent);
  }
  kmp_record_promises A =
      let alone = kmp_promises p bytes cap lent record { answer = refl; list = refl } in
      record {
        answer = A.answer;
        list = A.list;
        accurate = promised kmp p a r cap lent (Located kmp w t cap) alone.accurate A;
        classed = promised kmp p a r cap lent (ListedBy p.classes (own_bytes p) bytes) alone.classed A;
        columns = promised kmp p a r cap lent (λ after. Columns w (kmp w t cap (length lent)).last.made) alone.columns A;
        ceiling = promised kmp p a r cap lent (λ after. UnderKmpCeiling (length w) (length bytes)) alone.ceiling A;
        same = promised kmp p a r cap lent (AsColussi w t) alone.same A;
        zeros = promised kmp p a r cap lent (NoZeroCovered (length w) bytes) alone.zeros A;
        plain = λ e. plain kmp p a r cap lent e A;
      }
