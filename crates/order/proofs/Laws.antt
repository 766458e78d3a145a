-- What the reading of words, numbers and kinds finds, as the definitions have it.
use Rattle.std.proofs.Common.{◌≡◌, ℕ, suc, ◌+◌, ◌<◌, ◌≤◌, Bool, true, false, cond, eqb, ltb, ◌&&◌, not, List, [], ◌∷◌, length, Option, Some, None, Result, Err, sym, refl, ap, ◌∙◌, arith, position, eq-eqb, ne_eqb}
use borrow.Author.Tests.{ltb-true, ltb-false}
use Rattle.std.proofs.lemmas.Result.{err_from_is_err_and}
use Rattle.std.specs.Bool.{then_some}
use Rattle.std.specs.List.{starts_with as begins_with, prefix_len}
use Rattle.std.specs.Option.{ok_or}
use Rattle.std.specs.Result.{IsErrAnd}
use Rattle.fills.specs.Kinds.{kinds}
use Rattle.text.specs.decimal.Number.{number_at}
use Rattle.text.specs.declared.decimal.Number.{Number}
use Rattle.order.specs.Order.{engine_of, kind_of, numbered, nonzero}
use Rattle.order.specs.Words.{starts_with, found, number}
use Rattle.order.specs.Words as words
use Rattle.order.specs.declared.Fault.{Fault}

-- ---- a text starts with a word, as std has it and as Words does
pub begins : (s w : List ℕ) → begins_with eqb s w ≡ starts_with w s
unfolding starts_with
begins s [] = refl
begins [] (x ∷ w) = refl
begins (y ∷ s) (x ∷ w) = ap (λ (b : Bool). eqb x y && b) (begins s w)

-- ---- the engines
module _ (s : List ℕ) where
  pub engine_1 : true ≡ begins_with eqb s words.xoshiro → 1 ≡ engine_of s
  unfolding engine_of
  engine_1 e = ap (λ (b : Bool). cond b 1 (cond (starts_with words.philox s) 2 0)) (e ∙ begins s words.xoshiro)

  pub engine_2 : {b : Bool} → false ≡ begins_with eqb s words.xoshiro → b ≡ begins_with eqb s words.philox → cond b 2 0 ≡ engine_of s
  unfolding engine_of
  engine_2 e f =
      let x = e ∙ begins s words.xoshiro in
      let p = f ∙ begins s words.philox in
      (λ i. cond (x i) 1 (cond (p i) 2 0))

-- ---- a number that was read, or none
pub found_none : (n : Option Number) {A : Type 0} {none : A} (f : ℕ → A) → None ≡ found None (λ v. Some v) n → found none f n ≡ none
found_none None f e = refl
found_none (Some x) f e = absurd cc

pub found_some : (n : Option Number) {v : ℕ} {A : Type 0} (none : A) (f : ℕ → A) → Some v ≡ found None (λ v. Some v) n → found none f n ≡ f v
found_some None none f e = absurd cc
found_some (Some x) {v} none f e = let q : x.value ≡ v = cc in ap f q

-- ---- the first of some words that a text starts with, by its number from n on, or else another
abbrev pub first_named : {X : Type 0} → (X → Bool) → (n other : ℕ) → List X → ℕ
first_named p n other [] = other
first_named p n other (w ∷ ws) = cond (p w) n (first_named p (n + 1) other ws)

module _ {X : Type 0} (p : X → Bool) (other : ℕ) where
  abbrev before : List X → ℕ
  before ws = prefix_len (λ x. not (p x)) ws

  named_in : (ws : List X) (n : ℕ) → before ws < length ws → first_named p n other ws ≡ n + before ws
  named_in [] n h = absurd (omega arith)
  named_in (w ∷ ws) n h = go (p w) h (named_in ws (n + 1))
    where
      go : (b : Bool) → cond (not b) (1 + before ws) 0 < suc (length ws) → (before ws < length ws → first_named p (n + 1) other ws ≡ n + 1 + before ws)
          → cond b n (first_named p (n + 1) other ws) ≡ n + cond (not b) (1 + before ws) 0
      go true h f = omega arith
      go false h f = omega (arith, f (omega arith))

  named_none : (ws : List X) (n : ℕ) → length ws ≤ before ws → first_named p n other ws ≡ other
  named_none [] n h = refl
  named_none (w ∷ ws) n h = go (p w) h (named_none ws (n + 1))
    where
      go : (b : Bool) → suc (length ws) ≤ cond (not b) (1 + before ws) 0 → (length ws ≤ before ws → first_named p (n + 1) other ws ≡ other)
          → cond b n (first_named p (n + 1) other ws) ≡ other
      go true h f = absurd (omega arith)
      go false h f = f (omega arith)

  pub named_at : (ws : List X) (n i : ℕ) → Some i ≡ position p ws → first_named p n other ws ≡ n + i
  named_at ws n i e = go (ltb (before ws) (length ws)) refl e
    where
      go : (b : Bool) → ltb (before ws) (length ws) ≡ b → Some i ≡ cond b (Some (before ws)) None → first_named p n other ws ≡ n + i
      go true q e = let k : before ws ≡ i = cc in named_in ws n (ltb-true _ _ q) ∙ ap (λ (m : ℕ). n + m) k
      go false q e = absurd cc

  pub named_not : (ws : List X) (n : ℕ) → None ≡ position p ws → first_named p n other ws ≡ other
  named_not ws n e = go (ltb (before ws) (length ws)) refl e
    where
      go : (b : Bool) → ltb (before ws) (length ws) ≡ b → None ≡ cond b (Some (before ws)) None → first_named p n other ws ≡ other
      go true q e = absurd cc
      go false q e = named_none ws n (ltb-false _ _ q)

-- ---- the kinds
abbrev pub names : List (List ℕ)
names = words.u64 ∷ words.u32 ∷ words.f32 ∷ words.f64 ∷ words.normal_f32 ∷ words.normal_f64 ∷ words.open01_f32 ∷ words.open01_f64 ∷ []

pub kinds_named : (s : List ℕ) → kind_of s ≡ first_named (λ w. begins_with eqb s w) 1 (numbered s) names
unfolding kind_of
kinds_named s =
    let b : (w : List ℕ) → starts_with w s ≡ begins_with eqb s w = λ w. sym (begins s w) in
    (λ i. cond (b words.u64 i) 1 (cond (b words.u32 i) 2 (cond (b words.f32 i) 3 (cond (b words.f64 i) 4
    (cond (b words.normal_f32 i) 5 (cond (b words.normal_f64 i) 6 (cond (b words.open01_f32 i) 7 (cond (b words.open01_f64 i) 8 (numbered s)))))))))

pub kind_named : (s : List ℕ) {i : ℕ} → Some i ≡ position (λ w. begins_with eqb s w) names → kind_of s ≡ 1 + i
kind_named s {i} e = kinds_named s ∙ named_at (λ w. begins_with eqb s w) (numbered s) names 1 i e

pub kind_not : (s : List ℕ) → None ≡ position (λ w. begins_with eqb s w) names → kind_of s ≡ numbered s
kind_not s e = kinds_named s ∙ named_not (λ w. begins_with eqb s w) (numbered s) names 1 e

pub kind_some : {k : ℕ} (i : ℕ) → k ≡ 1 + i → Some (i + 1) ≡ nonzero k
kind_some {k} i e =
    let q : i + 1 ≡ k = omega arith in
    ap (λ (n : ℕ). Some n) q ∙ sym (ap (λ (b : Bool). cond b None (Some k)) (ne_eqb k 0 (λ z. omega arith)))

pub kind_none : {k : ℕ} → k ≡ 0 → None ≡ nonzero k
kind_none {k} e = sym (ap (λ (b : Bool). cond b None (Some k)) (eq-eqb k 0 e))

pub kind_tested : (b : Bool) (k : ℕ) → then_some (not b) k ≡ cond b None (Some k)
kind_tested true k = refl
kind_tested false k = refl

module _ (s : List ℕ) {last : ℕ} (q : last ≡ length kinds) where
  pub none_numbered : None ≡ number last s None (λ v. Some v) → numbered s ≡ 0
  unfolding numbered
  none_numbered e = found_none (number_at (length kinds) 0 s 0) (λ k. k) (e ∙ ap (λ (n : ℕ). number n s None (λ v. Some v)) q)

  pub some_numbered : {k : ℕ} → Some k ≡ number last s None (λ v. Some v) → numbered s ≡ k
  unfolding numbered
  some_numbered e = found_some (number_at (length kinds) 0 s 0) 0 (λ k. k) (e ∙ ap (λ (n : ℕ). number n s None (λ v. Some v)) q)

-- ---- what the exit of a `?` returns
from_ok_or : {T : Type 0} (o : Option T) (x f : Fault) → Err x ≡ ok_or o f → x ≡ f
from_ok_or None x f e = cc
from_ok_or (Some v) x f e = absurd cc

pub passed_on : {V : Type 0} {r : Result V Fault} {x : Fault} → IsErrAnd r (λ y. y ≡ x) → r ≡ Err x
passed_on {r = r} h = let p = err_from_is_err_and r h in p.1 ∙ ap (λ y. Err y) p.2

pub passed : {T V : Type 0} {r : Result V Fault} (o : Option T) {x f : Fault} → IsErrAnd r (λ y. y ≡ x) → Err x ≡ ok_or o f → r ≡ Err f
passed o {x} {f} h e = passed_on h ∙ ap (λ y. Err y) (from_ok_or o x f e)
