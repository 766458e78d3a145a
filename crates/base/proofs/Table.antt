-- A table's length and elements, and what a loop that stores one place by place keeps. Assumes nothing.
use mathlib.Core.List.{List, ◌∷◌, ◌++◌}
use mathlib.Core.Path.{◌≡◌, refl, sym, ap, ◌∙◌}
use Prim.Native.Nat.{ℕ, zero, suc, ◌+◌, ◌≤◌, ◌<◌, suc-le-suc}
use native.Mathlib.Nat.{le_of_suc-le-suc, not-suc-le-zero, zero-lt-suc, zero-add, suc-add}
use native.Mathlib.Decide.{dec_lt}
use native.Mathlib.Omega.{arith}
use lib.ListN.{length, get_or, set, length-set}
use lib.Seq.{get_or-set_same, get_or-set_other, ext_get_or}
use Rattle.base.specs.Table.{table}

pub length-table {ℓ} : {A : Type ℓ} (n : ℕ) (f : ℕ → A) → length (table n f) ≡ n
unfolding table
length-table zero f = refl
length-table (suc n) f = ap suc (length-table n (λ i. f (suc i)))

pub get_or-table {ℓ} : {A : Type ℓ} (n : ℕ) (f : ℕ → A) (i : ℕ) (d : A) → i < n → get_or (table n f) i d ≡ f i
unfolding table
get_or-table zero f i d h = absurd (not-suc-le-zero h)
get_or-table (suc n) f zero d h = refl
get_or-table (suc n) f (suc i) d h = get_or-table n (λ j. f (suc j)) i d (le_of_suc-le-suc h)

-- what stands in a list that is a table
pub placed : {A : Type 0} (n : ℕ) (d : A) (f : ℕ → A) {l : List A} → l ≡ table n f → (i : ℕ) → i < n → get_or l i d ≡ f i
placed {A} n d f e i h = ap (λ (k : List A). get_or k i d) e ∙ get_or-table n f i d h

pub table_same {ℓ} : {A : Type ℓ} (n : ℕ) (f g : ℕ → A) → ((i : ℕ) → i < n → f i ≡ g i) → table n f ≡ table n g
unfolding table
table_same zero f g h = refl
table_same (suc n) f g h = λ k. h 0 (zero-lt-suc n) k ∷ table_same n (λ i. f (suc i)) (λ i. g (suc i)) (λ i l. h (suc i) (suc-le-suc l)) k

-- a table in two parts
pub table-append : {A : Type 0} (m n : ℕ) (f : ℕ → A) → table (m + n) f ≡ table m f ++ table n (λ i. f (m + i))
unfolding table
table-append zero n f = ap (λ (k : ℕ). table k f) (zero-add n) ∙ table_same n f (λ i. f (0 + i)) (λ i h. ap f (sym (zero-add i)))
table-append (suc m) n f =
    ap (λ (k : ℕ). table k f) (suc-add m n)
    ∙ ap (λ (t : List _). f 0 ∷ t) (table-append m n (λ i. f (suc i)) ∙ ap (λ (t : List _). table m (λ i. f (suc i)) ++ t) (table_same n _ _ (λ i h. ap f (sym (suc-add m i)))))

-- a list of n elements is the table of them
pub table-get_or : {A : Type 0} (n : ℕ) (d : A) (l : List A) → length l ≡ n → table n (λ i. get_or l i d) ≡ l
table-get_or n d l e =
    ext_get_or d (table n (λ i. get_or l i d)) l (length-table n _ ∙ sym e)
    (λ i h. get_or-table n (λ j. get_or l j d) i d (omega (arith, length-table n (λ j. get_or l j d))))

-- the first i of n elements are stored
pub record Tabled {A : Type 0} (n : ℕ) (f : ℕ → A) (d : A) (out : List A) (i : ℕ) : Type 0 where
  pub upto : i ≤ n
  pub long : length out ≡ n
  pub done : (j : ℕ) → j < i → get_or out j d ≡ f j

module _ {A : Type 0} {n : ℕ} {f : ℕ → A} {d : A} {out : List A} where
  pub tabled_none : length out ≡ n → Tabled n f d out 0
  tabled_none e = record { upto = omega arith; long = e; done = λ j h. absurd (not-suc-le-zero h) }

  module _ {i : ℕ} (w : Tabled n f d out i) where
    pub tabled_more : {v : A} → i < n → v ≡ f i → Tabled n f d (set out i v) (i + 1)
    tabled_more {v} h e =
        record { upto = omega arith; long = length-set out i v ∙ w.long; done = λ j hj. at j hj (dec_lt j i) }
      where
        at : (j : ℕ) → j < i + 1 → Dec (j < i) → get_or (set out i v) j d ≡ f j
        at j hj (yes l) = get_or-set_other out i j v d (λ q. omega arith) ∙ w.done j l
        at j hj (no g) =
            let q : j ≡ i = omega arith in
            let le : i < length out = omega (arith, w.long) in
            ap (λ (x : ℕ). get_or (set out i v) x d) q ∙ get_or-set_same out i v d le ∙ e ∙ sym (ap f q)

    pub tabled_end : n ≤ i → out ≡ table n f
    tabled_end h =
        ext_get_or d out (table n f) (w.long ∙ sym (length-table n f))
        (λ j l. w.done j (omega (arith, w.long)) ∙ sym (get_or-table n f j d (omega (arith, w.long))))

-- the same in place: the first i elements stand over those of `old`, and those after them are still `old`'s
pub record Mapped {A : Type 0} (n : ℕ) (f : ℕ → A) (d : A) (old out : List A) (i : ℕ) : Type 0 where
  pub tabled : Tabled n f d out i
  pub left : (j : ℕ) → i ≤ j → get_or out j d ≡ get_or old j d

module _ {A : Type 0} {n : ℕ} {f : ℕ → A} {d : A} {old : List A} where
  pub mapped_none : length old ≡ n → Mapped n f d old old 0
  mapped_none e = record { tabled = tabled_none e; left = λ j h. refl }

  pub mapped_more : {out : List A} {i : ℕ} {v : A} → Mapped n f d old out i → i < n → v ≡ f i → Mapped n f d old (set out i v) (i + 1)
  mapped_more {out} {i} {v} w h e =
      record {
        tabled = tabled_more w.tabled h e;
        left = λ j l. get_or-set_other out i j v d (λ q. omega arith) ∙ w.left j (omega arith);
      }
