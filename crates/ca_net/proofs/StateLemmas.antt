-- States, their order, and tables of values.
use Rattle.std.proofs.Common.{◌≡◌, ℕ, zero, suc, ◌+◌, ◌<◌, ◌≤◌, ◌⊎◌, List, [], ◌∷◌, length, inl, inr, refl}
use Rattle.std.proofs.Common.{sym, ◌∙◌, ap, subst, arith}
use Rattle.std.proofs.Math.Decide.{dec_le}
use Rattle.std.proofs.lemmas.List.{get_or_past}
use Rattle.ca_net.specs.declared.trit.Trit.{Trit}
use Rattle.ca_net.specs.declared.trit.Trit.TheVariants.{Zero, One, X}
use Rattle.ca_net.specs.declared.node.NodeKind.{NodeKind}
use Rattle.ca_net.specs.declared.node.NodeKind.TheVariants.{Input, Storage}
use Rattle.ca_net.specs.Trit.{IsBelow}
use Rattle.ca_net.specs.Circuit.{Circuit, kind_at, IsStorage}
use Rattle.ca_net.specs.State.{IsStateBelow, value_at}
use Rattle.ca_net.specs.Response.{ResponseAt, IsResponse}

pub IsBelow-trans : (a b c : Trit) → IsBelow a b → IsBelow b c → IsBelow a c
IsBelow-trans a b c (inl e) q = inl e
IsBelow-trans a b c (inr e) q = subst (λ x. IsBelow x c) (sym e) q

-- what is not false is true
pub IsBelow-stable : (a b : Trit) → ((IsBelow a b → ⊥) → ⊥) → IsBelow a b
IsBelow-stable X b h = inl refl
IsBelow-stable Zero Zero h = inr refl
IsBelow-stable Zero One h = absurd (h (λ z. elim z [ inl e ↦ cc | inr e ↦ cc ]))
IsBelow-stable Zero X h = absurd (h (λ z. elim z [ inl e ↦ cc | inr e ↦ cc ]))
IsBelow-stable One Zero h = absurd (h (λ z. elim z [ inl e ↦ cc | inr e ↦ cc ]))
IsBelow-stable One One h = inr refl
IsBelow-stable One X h = absurd (h (λ z. elim z [ inl e ↦ cc | inr e ↦ cc ]))

kind_cases : (k : NodeKind) → ((k ≡ Input) → ⊥) ⊎ (k ≡ Input)
kind_cases Input = inr refl
kind_cases (Storage z) = inl (λ e. cc)

pub storage_or_input : (net : Circuit) (n : ℕ) → IsStorage net n ⊎ (kind_at net n ≡ Input)
storage_or_input net n = kind_cases (kind_at net n)

pub storage_within : (net : Circuit) (n : ℕ) → IsStorage net n → n < length net.nodes
storage_within net n st = elim (dec_le (n + 1) (length net.nodes)) [
  | yes lt ↦ omega arith
  | no ge ↦ absurd (st (get_or_past net.nodes n Input (omega arith)))
]

response_at : (k : NodeKind) (net : Circuit) (s : List Trit) (n : ℕ) → ((r : Trit) → ResponseAt k net s n r → ⊥) → ⊥
response_at Input net s n out = out (value_at s n) refl
response_at (Storage z) net s n out = out X (λ a. out Zero a, λ a. out One a)

-- each node has a response
pub some_response : (net : Circuit) (s : List Trit) (n : ℕ) → ((r : Trit) → IsResponse net s n r → ⊥) → ⊥
some_response net s n = response_at (kind_at net n) net s n

-- the response of an input node is its value
pub response_of_input : (net : Circuit) (s : List Trit) (n : ℕ) (r : Trit) → kind_at net n ≡ Input → IsResponse net s n r → r ≡ value_at s n
response_of_input net s n r e h = subst (λ k. ResponseAt k net s n r) e h

pub input_responds : (net : Circuit) (s : List Trit) (n : ℕ) → kind_at net n ≡ Input → IsResponse net s n (value_at s n)
input_responds net s n e = subst (λ k. ResponseAt k net s n (value_at s n)) (sym e) refl

-- a list of values, of which each meets P at its place
module _ (P : ℕ → Trit → Type 0) (some : (n : ℕ) → ((v : Trit) → P n v → ⊥) → ⊥) where
  build : (k j : ℕ) → ((t : List Trit) → length t ≡ k → ((n : ℕ) → n < k → P (j + n) (value_at t n)) → ⊥) → ⊥
  build zero j out = out [] refl (λ n lt. absurd (omega arith))
  build (suc k) j out = some j (λ v pv. build k (j + 1) (λ t len h. out (v ∷ t) (ap suc len) (at v t pv h)))
    where
      at : (v : Trit) (t : List Trit) → P j v → ((n : ℕ) → n < k → P (j + 1 + n) (value_at t n)) → (n : ℕ) → n < suc k → P (j + n) (value_at (v ∷ t) n)
      at v t pv h zero lt = subst (λ x. P x v) (omega arith) pv
      at v t pv h (suc n) lt = subst (λ x. P x (value_at t n)) (omega arith) (h n (omega arith))

  pub some_list : (k : ℕ) → ((t : List Trit) → length t ≡ k → ((n : ℕ) → n < k → P n (value_at t n)) → ⊥) → ⊥
  some_list k out = build k 0 (λ t len h. out t len (λ n lt. subst (λ x. P x (value_at t n)) (omega arith) (h n lt)))

-- the values of f at the k places from j on
pub table_from : (ℕ → Trit) → ℕ → ℕ → List Trit
table_from f j zero = []
table_from f j (suc k) = f j ∷ table_from f (j + 1) k

pub length-table_from : (f : ℕ → Trit) (j k : ℕ) → length (table_from f j k) ≡ k
unfolding table_from
length-table_from f j zero = refl
length-table_from f j (suc k) = ap suc (length-table_from f (j + 1) k)

pub value_at-table_from : (f : ℕ → Trit) (j k n : ℕ) → n < k → value_at (table_from f j k) n ≡ f (j + n)
unfolding table_from
value_at-table_from f j zero n lt = absurd (omega arith)
value_at-table_from f j (suc k) zero lt = ap f (omega arith)
value_at-table_from f j (suc k) (suc n) lt = value_at-table_from f (j + 1) k n (omega arith) ∙ ap f (omega arith)

-- how many values are 0 or 1
abbrev pub weight : Trit → ℕ
weight Zero = 1
weight One = 1
weight X = 0

abbrev pub definites : List Trit → ℕ
definites [] = 0
definites (t ∷ ts) = weight t + definites ts

weight-le : (t : Trit) → weight t ≤ 1
weight-le Zero = omega arith
weight-le One = omega arith
weight-le X = omega arith

pub definites-le : (a : List Trit) → definites a ≤ length a
definites-le [] = omega arith
definites-le (t ∷ ts) = let w = weight-le t in let h = definites-le ts in omega arith

weight-up : (a b : Trit) → IsBelow a b → weight a ≤ weight b
weight-up a b (inl e) = subst (λ x. weight x ≤ weight b) (sym e) (omega arith)
weight-up a b (inr e) = subst (λ x. weight a ≤ weight x) e (omega arith)

weight-same : (a b : Trit) → IsBelow a b → weight b ≤ weight a → a ≡ b
weight-same a b (inr e) le = e
weight-same a Zero (inl e) le = let h : 1 ≤ weight X = subst (λ x. 1 ≤ weight x) e le in absurd (omega arith)
weight-same a One (inl e) le = let h : 1 ≤ weight X = subst (λ x. 1 ≤ weight x) e le in absurd (omega arith)
weight-same a X (inl e) le = e

pub definites-up : (a b : List Trit) → length a ≡ length b → IsStateBelow a b → definites a ≤ definites b
definites-up [] b len h = omega arith
definites-up (x ∷ xs) [] len h = absurd (omega (arith, len))
definites-up (x ∷ xs) (y ∷ ys) len h =
    let w = weight-up x y (h 0) in
    let r = definites-up xs ys (omega (arith, len)) (λ n. h (suc n)) in omega arith

pub definites-same : (a b : List Trit) → length a ≡ length b → IsStateBelow a b → definites b ≤ definites a → (n : ℕ) → value_at a n ≡ value_at b n
definites-same [] [] len h le n = refl
definites-same [] (y ∷ ys) len h le n = absurd (omega (arith, len))
definites-same (x ∷ xs) [] len h le n = absurd (omega (arith, len))
definites-same (x ∷ xs) (y ∷ ys) len h le zero =
    let r = definites-up xs ys (omega (arith, len)) (λ n. h (suc n)) in
    weight-same x y (h 0) (omega arith)
definites-same (x ∷ xs) (y ∷ ys) len h le (suc n) =
    let w = weight-up x y (h 0) in
    definites-same xs ys (omega (arith, len)) (λ n. h (suc n)) (omega arith) n
