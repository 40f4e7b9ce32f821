-- The noholes, written in the order of the places; and their next ranks, of which those that are not 0 are asked for. Assumes nothing.
use Prim.Native.Nat.{ℕ, min, max, suc, ◌+◌, ◌-◌, ◌*◌, ◌^◌, ◌%◌, ◌≤◌, ◌<◌}
use mathlib.Core.Path.{◌≡◌, refl, sym, ap, ◌∙◌}
use mathlib.Core.Logic.{◌⊎◌, inl, inr, ⊎_elim}
use mathlib.Core.Bool.{true, false, cond}
use mathlib.Core.List.{List}
use native.Mathlib.Omega.{arith}
use native.Mathlib.Numerals.{add-one}
use lib.Dec.{leb, ltb}
use lib.ListN.{length, get_or, set, take, replicate, length-set, length-replicate, get_or-replicate}
use lib.Seq.{get_or-set_same, get_or-set_other, get_or-take, length-take-le}
use borrow.Author.Tests.{le-leb, lt-leb, lt-ltb, le-ltb}
use Rattle.std.specs.Int.{from_bool}
use Rattle.words.specs.Numbers.{tabulate}
use Rattle.words.specs.Tables.{hmax, nohole, kmin, below, noholes, place, rank, shift, next}
use Rattle.words.proofs.Cases.{less_or}
use Rattle.words.proofs.Tabulate.{by_entries}
use Rattle.words.proofs.Noholes.{nohole_inside, kmin_nohole, kmin_hole, past_hole, nohole_is}
use Rattle.words.proofs.Ranks.{below_le, below_nohole, below_hole, below_same, rank_nohole, nohole_early, place_rank, nohole_rank}
use Rattle.words.proofs.Shifts.{shift_nohole, next_nohole, noholes_le, none_below_first, hole_before_first}
use Rattle.intake.specs.Sizes.{longest_pattern}
use Rattle.hmax.proofs.Stores.{after_store}
use Rattle.pattern.specs.Sizes.{ranks}
use Rattle.pattern.specs.Marks.{bits, mark_word}
use Rattle.pattern.specs.Internal.Ranked.{OrderTo, ShiftTo, NextTo, Among, ListsNoholes, ListsWord, Askable, asked, Asks}
use Rattle.pattern.proofs.Kmins.{nohole_test}
use Rattle.pattern.proofs.Bits.{one_if, bits_same, bit_more, bit_room, marked_below}
use Rattle.pattern.proofs.Ranked.{kept_in, more_in}

-- ---- Numbers that are asked for, rank by rank

module _ (marks orders shifts later : List ℕ) where
  -- One more is stored, at the rank i that is listed next.
  pub asks_more : {before after : List ℕ} (t i v : ℕ) → i < length before → i ≡ get_or later t 0 → v ≡ asked marks orders shifts i
      → Asks marks orders shifts later t before after → Asks marks orders shifts later (t + 1) before (set after i v)
  asks_more {before} {after} t i v inside at e A = record {
    size = length-set after i v ∙ A.size;
    done = λ u l. after_store after i v (λ x. x ≡ asked marks orders shifts (get_or later u 0)) (get_or later u 0) (omega (arith, A.size))
        (λ same. e ∙ ap (asked marks orders shifts) (sym same))
        (λ other. ⊎_elim
        (λ (a : u < t). A.done u a)
        (λ (a : t ≤ u). let here : u ≡ t = omega arith in absurd (other (ap (λ x. get_or later x 0) here ∙ sym at)))
        (less_or u t));
    others = λ j. after_store after i v (λ x. (Among later (t + 1) j × (x ≡ asked marks orders shifts j)) ⊎ (x ≡ get_or before j 0)) j (omega (arith, A.size))
        (λ same. inl ((t, omega arith, sym at ∙ sym same), e ∙ ap (asked marks orders shifts) (sym same)))
        (λ other. ⊎_elim
        (λ (C : Among later t j × (get_or after j 0 ≡ asked marks orders shifts j)). inl ((C.0.0, omega (arith, C.0.1), C.0.2), C.1))
        (λ kept. inr kept)
        (A.others j));
  }

-- Of those that are listed, a slice of the first t is passed on.
module _ (later : List ℕ) (t : ℕ) (l : t ≤ length later) where
  pub taken : t ≡ length (take t later)
  taken = sym (length-take-le t later l)

  pub askable_taken : {orders shifts : List ℕ} → Askable orders shifts later t → Askable orders shifts (take t later) (length (take t later))
  askable_taken A = record {
    room = omega (arith, A.room, taken);
    back = λ u h. let g : u < t = omega (arith, taken) in rw (get_or-take t later u 0 g) (A.back u g);
  }

  among_taken : (j : ℕ) → Among (take t later) (length (take t later)) j → Among later t j
  among_taken j B = let h : B.0 < t = omega (arith, taken, B.1) in (B.0, h, sym (get_or-take t later B.0 0 h) ∙ B.2)

  pub asks_taken : {marks orders shifts before after : List ℕ} → Asks marks orders shifts (take t later) (length (take t later)) before after
      → Asks marks orders shifts later t before after
  asks_taken {marks} {orders} {shifts} {before} {after} A = record {
    size = A.size;
    done = λ u h. rw (get_or-take t later u 0 h) at (A.done u (omega (arith, taken)));
    others = λ j. ⊎_elim
        (λ (C : Among (take t later) (length (take t later)) j × (get_or after j 0 ≡ asked marks orders shifts j)). inl (among_taken j C.0, C.1))
        (λ same. inr same)
        (A.others j);
  }

-- The noholes below p are listed, and those from the word's first place a on are marked. Where p lies past the word, none lies between.
pub record InWord (w orders shifts later : List ℕ) (a p word i t : ℕ) : Type 0 where
  pub begun : a ≤ p
  pub past : (x : ℕ) → a + 64 ≤ x → x < p → nohole w x ≡ false
  pub ranked : i ≤ p
  pub room : t ≤ i
  pub lists : ListsWord w orders shifts later a p word i t

module _ (w : List ℕ) where
  -- ---- The noholes and their shifts

  pub list_begins : {orders shifts later : List ℕ} → OrderTo w orders 0 → ShiftTo w shifts 0 → length later ≡ longest_pattern
      → ListsNoholes w orders shifts later 0 0 0
  list_begins O S size = record {
    rank = omega (arith, below_le w 0);
    order = O;
    shift = S;
    size = size;
    room = omega arith;
    listed = λ u l. absurd (omega arith);
    due = λ j l. absurd (omega arith);
  }

  -- Holes are passed over, in either direction.
  list_moved : {orders shifts later : List ℕ} {i t : ℕ} (p q : ℕ) → below w p ≡ below w q
      → ListsNoholes w orders shifts later p i t → ListsNoholes w orders shifts later q i t
  list_moved p q e L = record {
    rank = L.rank ∙ e;
    order = L.order;
    shift = L.shift;
    size = L.size;
    room = L.room;
    listed = L.listed;
    due = L.due;
  }

  -- Past the pattern there are holes alone.
  pub list_ends : {orders shifts later : List ℕ} {i t : ℕ} (p : ℕ) → length w ≤ p → ListsNoholes w orders shifts later p i t
      → ListsNoholes w orders shifts later (length w) i t
  list_ends p l = list_moved p (length w) (below_same w (length w) p l (λ x g h. past_hole w x g))

  -- What a nohole p has at its rank i, which is below(p).
  record NoholeAt (p i : ℕ) : Type 0 where
    place : p ≡ place w i
    shift : kmin w p ≡ shift w i
    next : next w i ≡ below w (p - kmin w p)

  nohole_at : (p i : ℕ) → i ≡ below w p → nohole w p ≡ true → NoholeAt p i
  nohole_at p i at e =
      let q : rank w p ≡ i = rank_nohole w p e ∙ sym at in
      let early : i < noholes w = rw q at (nohole_early w p e) in
      let here : place w i ≡ p = rw q at (place_rank w p (nohole_inside w p e)) in
      record {
        place = sym here;
        shift = rw (shift_nohole w i early, here) refl;
        next = rw (next_nohole w i early, here) refl;
      }

  module _ {orders shifts later : List ℕ} (short : length w ≤ longest_pattern) (p i t k : ℕ) (inside : p < length w)
      (least : k ≡ kmin w p) (L : ListsNoholes w orders shifts later p i t) where
    free : i < length w
    free = omega (arith, L.rank, below_le w p)

    -- The ranks that are listed stay so.
    kept : (u : ℕ) → u < t → get_or (set later t i) u 0 ≡ get_or later u 0
    kept u l = get_or-set_other later t u i 0 (λ e. omega arith)

    still : (n j : ℕ) → t ≤ n → j < i → (next w j ≡ 0) ⊎ Among (set later t i) n j
    still n j g l = ⊎_elim (λ z. inl z) (λ (A : Among later t j). inr (A.0, omega (arith, A.1), kept A.0 A.1 ∙ A.2)) (L.due j l)

    list_hole : length w < k → ListsNoholes w (set orders i p) (set shifts i k) (set later t i) (p + 1) i t
    list_hole a = record {
      rank = L.rank ∙ sym (rw (add-one p) (below_hole w p (kmin_hole w p (omega arith))));
      order = kept_in w longest_pattern (place w) i p L.order free;
      shift = kept_in w ranks (shift w) i k L.shift free;
      size = length-set later t i ∙ L.size;
      room = L.room;
      listed = λ u l. rw (kept u l) (L.listed u l);
      due = λ j l. still t j (omega arith) l;
    }

    -- A nohole, and the n ranks that are listed then.
    list_nohole : (n : ℕ) → k ≤ length w → t ≤ n → n ≤ t + 1 → (next w i ≡ 0) ⊎ Among (set later t i) n i
        → ListsNoholes w (set orders i p) (set shifts i k) (set later t i) (p + 1) (i + 1) n
    list_nohole n a from upto due =
        let is : nohole w p ≡ true = kmin_nohole w p inside (omega arith) in
        let N = nohole_at p i L.rank is in
        record {
          rank = rw (add-one p, add-one i) (ap suc L.rank ∙ sym (below_nohole w p is));
          order = more_in w longest_pattern (place w) i p L.order free short N.place;
          shift = more_in w ranks (shift w) i k L.shift free (omega arith) (least ∙ N.shift);
          size = length-set later t i ∙ L.size;
          room = omega (arith, L.room);
          listed = λ u l. after_store later t i (λ x. x < i + 1) u (omega (arith, L.size, L.room, free)) (λ e. omega arith) (λ e.
              let before : get_or later u 0 < i = L.listed u (omega arith) in omega arith);
          due = λ j l. ⊎_elim
              (λ (b : j < i). still n j from b)
              (λ (b : i ≤ j). let here : j ≡ i = omega arith in rw here due)
              (less_or j i);
        }

    -- As the code counts.
    pub list_place : (first : ℕ) → first ≡ hmax w 1
        → ListsNoholes w (set orders i p) (set shifts i k) (set later t i) (p + 1) (i + cond (leb k (length w)) 1 0) (t + cond (ltb (first + k) p) 1 0)
    list_place first at_first = ⊎_elim
        (λ (a : length w < k).
        let e : i + 0 ≡ i = omega arith in
        let f : t + 0 ≡ t = omega arith in
        rw (lt-leb k (length w) a, le-ltb (first + k) p (omega arith), e, f) (list_hole a))
        (λ (a : k ≤ length w). ⊎_elim
        (λ (b : first + k < p).
        rw (le-leb k (length w) a, lt-ltb (first + k) p b)
        (list_nohole (t + 1) a (omega arith) (omega arith) (inr (t, omega arith, get_or-set_same later t i 0 (omega (arith, L.size, L.room, free))))))
        (λ (b : p ≤ first + k).
        let f : t + 0 ≡ t = omega arith in
        let none : next w i ≡ 0 =
        (nohole_at p i L.rank (kmin_nohole w p inside (omega arith))).next ∙ none_below_first w (p - kmin w p) (omega arith) (omega arith) in
        rw (le-leb k (length w) a, le-ltb (first + k) p b, f) (list_nohole t a (omega arith) (omega arith) (inl none)))
        (less_or (first + k) p))
        (less_or (length w) k)

  -- ---- With the marks of a word

  pub word_begins : {orders shifts later : List ℕ} {i t : ℕ} (a : ℕ) → ListsNoholes w orders shifts later a i t → ListsWord w orders shifts later a a 0 i t
  unfolding bits
  word_begins a L = record { marks = let e : a - a ≡ 0 = omega arith in rw e refl; lists = L }

  pub word_passed : {orders shifts later : List ℕ} {word i t : ℕ} (a p q : ℕ) → a ≤ p → p ≤ q → ((x : ℕ) → p ≤ x → x < q → nohole w x ≡ false)
      → ListsWord w orders shifts later a p word i t → ListsWord w orders shifts later a q word i t
  word_passed a p q from l holes W = record {
    marks = W.marks ∙ sym (bits_same (nohole w) a (p - a) (q - a) (omega arith) (λ x g h. holes x (omega arith) (omega arith)));
    lists = list_moved p q (sym (below_same w p q l holes)) W.lists;
  }

  module _ {orders shifts later : List ℕ} (a p word i t k here : ℕ) (from : a ≤ p) (room : p - a < 64) (inside : p < length w)
      (least : k ≡ kmin w p) (counts : here ≡ cond (leb k (length w)) 1 0) (W : ListsWord w orders shifts later a p word i t) where
    -- What is counted is the place's own bit.
    bit : here ≡ cond (nohole w (a + (p - a))) 1 0
    bit = let at : a + (p - a) ≡ p = omega arith in rw (at, ← nohole_test w p k inside least) counts

    pub word_room : word + (here * 2 ^ (p - a)) % 2 ^ 64 < 2 ^ 64
    word_room = rw W.marks (bit_room (nohole w) a (p - a) here room bit)

    -- One place more, as the code counts.
    pub word_place : (first more : ℕ) → length w ≤ longest_pattern → first ≡ hmax w 1 → more ≡ cond (ltb (first + k) p) 1 0
        → ListsWord w (set orders i p) (set shifts i k) (set later t i) a (p + 1) (word + (here * 2 ^ (p - a)) % 2 ^ 64) (i + here) (t + more)
    word_place first more short at_first e =
        let on : p - a + 1 ≡ p + 1 - a = omega arith in
        record {
          marks = rw (W.marks, ← on) (bit_more (nohole w) a (p - a) here room bit);
          lists = rw (counts, e) (list_place short p i t k inside least W.lists first at_first);
        }

  -- ---- From place to place

  in_word : {orders shifts later : List ℕ} (a p word i t : ℕ) → a ≤ p → ((x : ℕ) → a + 64 ≤ x → x < p → nohole w x ≡ false)
      → ListsWord w orders shifts later a p word i t → InWord w orders shifts later a p word i t
  in_word a p word i t begun past W = record {
    begun = begun;
    past = past;
    ranked = omega (arith, W.lists.rank, below_le w p);
    room = W.lists.room;
    lists = W;
  }

  -- Before hmax(1) there are holes alone,
  pub word_from : {orders shifts later : List ℕ} {i t : ℕ} (a p first : ℕ) → 1 ≤ length w → first ≡ hmax w 1 → p ≡ max first a
      → ListsNoholes w orders shifts later a i t → InWord w orders shifts later a p 0 i t
  word_from a p first some at e L =
      in_word a p 0 _ _ (omega arith) (λ x g h. hole_before_first w x some (omega arith))
      (word_passed a a p (omega arith) (omega arith) (λ x g h. hole_before_first w x some (omega arith)) (word_begins a L))

  -- one place more is listed, as the code counts,
  module _ {orders shifts later : List ℕ} (a p word i t k m here : ℕ) (inside : p < length w) (in_it : p < a + 64) (least : k ≡ kmin w p)
      (size : m ≡ length w) (counts : here ≡ from_bool (leb k m)) (I : InWord w orders shifts later a p word i t) where
    is_nohole : here ≡ cond (leb k (length w)) 1 0
    is_nohole = rw size at (counts ∙ one_if (leb k m))

    pub word_fits : word + (here * 2 ^ (p - a)) % 2 ^ 64 < 2 ^ 64
    word_fits = word_room a p word i t k here I.begun (omega (arith, I.begun)) inside least is_nohole I.lists

    pub word_more : (first more also : ℕ) → length w ≤ longest_pattern → first ≡ hmax w 1 → also ≡ from_bool (leb k m)
        → more ≡ from_bool (ltb (first + k) p)
        → InWord w (set orders i p) (set shifts i k) (set later t i) a (p + 1) (word + (here * 2 ^ (p - a)) % 2 ^ 64) (i + also) (t + more)
    word_more first more also short at_first again due =
        let same : also ≡ here = again ∙ sym counts in
        rw same (in_word a (p + 1) _ (i + here) (t + more) (omega (arith, I.begun)) (λ x g h. absurd (omega arith))
        (word_place a p word i t k here I.begun (omega (arith, I.begun)) inside least is_nohole I.lists first more short at_first
        (due ∙ one_if (ltb (first + k) p))))

  -- and there are holes alone past the pattern.
  pub word_to : {orders shifts later : List ℕ} (a p word i t : ℕ) → min (length w) (a + 64) ≤ p → InWord w orders shifts later a p word i t
      → ListsWord w orders shifts later a (a + 64) word i t
  word_to a p word i t l I = ⊎_elim
      (λ (b : a + 64 < p). record {
        marks = I.lists.marks ∙ bits_same (nohole w) a (a + 64 - a) (p - a) (omega arith) (λ x g h. I.past x (omega arith) (omega arith));
        lists = list_moved p (a + 64) (below_same w (a + 64) p (omega arith) I.past) I.lists.lists;
      })
      (λ (b : p ≤ a + 64). word_passed a p (a + 64) I.begun b (λ x g h. past_hole w x (omega arith)) I.lists)
      (less_or (a + 64) p)

  -- ---- From word to word

  -- One word more: it begins at the place 64 * i.
  pub next_word : {orders shifts later : List ℕ} (marks : List ℕ) (i word d t : ℕ) → i < length marks
      → ((k : ℕ) → k < i → get_or marks k 0 ≡ mark_word w k) → ListsWord w orders shifts later (i * 64) (i * 64 + 64) word d t
      → ((k : ℕ) → k < i + 1 → get_or (set marks i word) k 0 ≡ mark_word w k) × ListsNoholes w orders shifts later ((i + 1) * 64) d t
  unfolding mark_word
  next_word marks i word d t inside each W =
      let from : i * 64 ≡ 64 * i = omega arith in
      let to : i * 64 + 64 ≡ (i + 1) * 64 = omega arith in
      let all : i * 64 + 64 - i * 64 ≡ 64 = omega arith in
      let bits_are : word ≡ bits (nohole w) (i * 64) 64 = rw all at W.marks in (
        λ k l. after_store marks i word (λ x. x ≡ mark_word w k) k inside
            (λ same. rw (same, ← from) bits_are)
            (λ other. each k (omega arith)),
        rw to at W.lists,
      )

  -- All four words are marked, and there are holes alone past the pattern.
  pub all_words : (marks : List ℕ) → length marks ≡ 4 → ((k : ℕ) → k < 4 → get_or marks k 0 ≡ mark_word w k) → marks ≡ tabulate 4 (mark_word w)
  all_words marks size each = by_entries 4 (mark_word w) marks size each

  -- ---- Their next ranks

  module _ {orders shifts later : List ℕ} (d t : ℕ) (L : ListsNoholes w orders shifts later (length w) d t) where
    pub all_listed : d ≡ noholes w
    unfolding noholes
    all_listed = L.rank

    pub few_listed : t ≤ length w
    few_listed = omega (arith, L.room, L.rank, below_le w (length w))

    pub askable : length w ≤ longest_pattern → Askable orders shifts later t
    askable short = record {
      room = omega (arith, L.room, all_listed, noholes_le w);
      back = λ u l.
          let j : ℕ = get_or later u 0 in
          let inside : j < d = L.listed u l in
          let early : j < noholes w = omega (arith, all_listed) in
          rw (L.order.ranked j inside, L.shift.ranked j inside, shift_nohole w j early) (nohole_is w (place w j) (nohole_rank w j early).is).from;
    }

    module _ {marks : List ℕ} (short : length w ≤ longest_pattern) (words : marks ≡ tabulate 4 (mark_word w)) where
      -- What is asked for at the rank of a nohole is its next rank.
      asked_next : (j : ℕ) → j < d → asked marks orders shifts j ≡ next w j
      asked_next j l =
          let early : j < noholes w = omega (arith, all_listed) in
          rw (L.order.ranked j l, L.shift.ranked j l, shift_nohole w j early)
          (marked_below w (place w j - kmin w (place w j)) words (omega (arith, (nohole_rank w j early).inside)) ∙ sym (next_nohole w j early))

      -- An entry that was asked for, and one that was not.
      abbrev Changed : List ℕ → ℕ → Type 0
      Changed nexts j = Among later t j × (get_or nexts j 0 ≡ asked marks orders shifts j)

      abbrev Kept : List ℕ → ℕ → Type 0
      Kept nexts j = get_or nexts j 0 ≡ get_or {A = ℕ} (replicate ranks 0) j 0

      zero_at : (j : ℕ) → j < ranks → get_or {A = ℕ} (replicate ranks 0) j 0 ≡ 0
      zero_at j h = get_or-replicate ranks j 0 0 h

      pub nexts_asked : {nexts : List ℕ} → Asks marks orders shifts later t (replicate ranks 0) nexts → NextTo w nexts d
      nexts_asked {nexts} A = record {
        size = A.size ∙ length-replicate {A = ℕ} ranks 0;
        ranked = λ j l. ⊎_elim
            (λ z. ⊎_elim
            (λ (C : Changed nexts j). C.1 ∙ asked_next j l)
            (λ (same : Kept nexts j). same ∙ zero_at j (omega (arith, all_listed, noholes_le w)) ∙ sym z)
            (A.others j))
            (λ (B : Among later t j). rw B.2 at (A.done B.0 B.1) ∙ asked_next j l)
            (L.due j l);
        zeros = λ j l h. ⊎_elim
            (λ (C : Changed nexts j).
            absurd (omega (arith, L.listed C.0.0 C.0.1, C.0.2, all_listed, noholes_le w)))
            (λ (same : Kept nexts j). same ∙ zero_at j h)
            (A.others j);
      }
