use Rattle.std.proofs.Common.{◌≡◌, ℕ, ◌+◌, ◌-◌, ◌≤◌, List, ◌++◌, length, take, rules, arith, sym, ap, ◌∙◌, subst}
use Rattle.std.proofs.lemmas.List.{length-take-le, take-append-le}
use Rattle.std.proofs.Math.Seq.{take-append-add}
use Rattle.std.specs.Io.KnownBytes.{Consumes}
use Rattle.std.proofs.KnownBytes.{Consumes-trans}
use borrow.Rule.Slice.PartMut.{put_mid, post_of}
use Rattle.motif.proofs.read_all.Goals as goal

-- The front of a buffer grows by what stands at the start of the part behind it.
take_more : (n more : ℕ) (buf part : List ℕ) → n ≤ length buf → more ≤ length part
    → take n buf ++ take more part ≡ take (n + more) (put_mid n (length buf - n) buf part)
take_more n more buf part within fits =
    let front = take n buf in
    let behind = part ++ post_of n (length buf - n) buf in
    let long = ap (λ k. take (k + more) (front ++ behind)) (length-take-le n buf within) in
    sym (sym long ∙ take-append-add front behind more ∙ ap (λ l. front ++ l) (take-append-le more part _ fits))

pub loop-n-preserved : goal.loop-n-preserved
loop-n-preserved g c =
    let before = c.loop-n.invariant in
    let read = c.in_ok-more.ensures in
    let joined = take_more c.loop-n.n c.in_ok-more.more c.loop-n.buf c.read.new.buf before.1 (omega (arith, read.bound)) in
    (search rules, search rules, subst (Consumes _ _) joined (Consumes-trans _ _ _ _ _ before.2 read.bytes.0))
