-- What the searches find.
use Rattle.std.proofs.Common.{◌≡◌, ℕ, ◌+◌, ◌<◌, ◌≤◌, ◌↔◌, List, Bool, true, false, length, inl, inr, sym, ◌∙◌}
use Rattle.std.proofs.Common.{ap, subst, arith, get_or, slice_get, set, replicate}
use Rattle.std.specs.Prelude.{Some}
use Rattle.std.proofs.Math.Decide.{dec_le}
use native.Mathlib.Decide.{ℕ_discrete}
use Rattle.std.proofs.lemmas.List.{get_or-replicate, length-replicate, get_or_past}
use Rattle.ca_net.specs.declared.path_kind.PathKind.TheVariants.{Definite, Potential}
use Rattle.ca_net.specs.declared.trit.Trit.{Trit}
use Rattle.ca_net.specs.declared.node.NodeKind.{NodeKind}
use Rattle.ca_net.specs.declared.node.NodeKind.TheVariants.{Input, Storage}
use Rattle.ca_net.specs.Circuit.{Circuit, IsWellFormed, HasSize, HasStrength, kind_at}
use Rattle.ca_net.specs.Path.{Path, Root, Via, root_of, end_of, strength_of, root_strength, IsPath}
use Rattle.ca_net.specs.Path.{IsPotential, IsDefinite}
use Rattle.ca_net.specs.Response.{HasStronger, IsBlocked}
use Rattle.ca_net.specs.code.Walk.{IsInner, Leads, Explores, HasDefinite, AreStrongest, AreStrongestFrom}
use Rattle.ca_net.specs.code.Walk.{RootReaches}
use Rattle.std.proofs.lemmas.Option.{get_or_from_slice_get, slice_get-get_or}
use Rattle.ca_net.proofs.Hops.{unmark}
use Rattle.ca_net.proofs.ScaleLemmas.{size_pos, strength_pos, input_pos}
use Rattle.ca_net.proofs.InnerPaths.{unblocked_inner, shortened}
use Rattle.ca_net.proofs.HopPaths.{Goes, leads_to, leads_from}

get_or_zeros : (n m : ℕ) → ◌≡◌ {A = ℕ} (get_or (replicate n 0) m 0) 0
get_or_zeros n m = elim (dec_le (m + 1) n) [
  | yes lt ↦ get_or-replicate n m 0 0 (omega arith)
  | no ge ↦ get_or_past (replicate n 0) m 0 (subst (λ x. x ≤ m) (sym (length-replicate n 0)) (omega arith))
]

-- each node gives at least 1
root_strength-pos : (k : NodeKind) → HasSize k → 0 < root_strength k
root_strength-pos Input h = input_pos
root_strength-pos (Storage size) h = size_pos size h

-- and each path has a strength of at least 1
strength_of-pos : (net : Circuit) → IsWellFormed net → (p : Path) → IsPath net p → 0 < strength_of net p
strength_of-pos net well_formed (Root r) h = root_strength-pos (kind_at net r) (well_formed.sizes r Input h)
strength_of-pos net well_formed (Via p d n) h =
    let a : 0 < strength_of net p = strength_of-pos net well_formed p h.0 in
    let b : 0 < d.strength = strength_pos d (subst HasStrength h.1.2 (well_formed.strengths h.1.0 d h.1.1)) in omega arith

pub root_within : (net : Circuit) (p : Path) → IsPath net p → root_of p < length net.nodes
root_within net (Root r) h = h
root_within net (Via p d n) h = root_within net p h.0

pub own_is : (net : Circuit) (r own : ℕ) (k : NodeKind) → slice_get net.nodes r ≡ Some k → own ≡ root_strength k → own ≡ strength_of net (Root r)
own_is net r own k e o = o ∙ ap root_strength (sym (get_or_from_slice_get net.nodes r k Input e))

-- a mark that was set and taken away again
pub restored : (n root : ℕ) (a b c : List Bool) → root < n → a ≡ replicate n false → b ≡ a → c ≡ set b root true → set c root false ≡ a
restored n root a b c lt ea eb ec =
    ap (λ x. set x root false) ec ∙ unmark b root (subst (λ x. slice_get x root ≡ Some false) (sym (eb ∙ ea))
    (slice_get-get_or (replicate n false) root false (subst (λ x. root < x) (sym (length-replicate n false)) lt) ∙ ap Some (get_or-replicate n root false false lt))) ∙ eb

module _ (net : Circuit) (well_formed : IsWellFormed net) (s : List Trit) where
  abbrev zeros : List ℕ
  zeros = replicate (length net.nodes) 0

  abbrev unmarked : List Bool
  unmarked = replicate (length net.nodes) false

  definite_goes : (p : Path) → IsInner net p → IsDefinite s p → Goes net s Definite zeros p
  definite_goes (Root r) inner h = subst (λ x. x ≤ strength_of net (Root r)) (sym (get_or_zeros (length net.nodes) r)) (omega arith)
  definite_goes (Via p d n) inner h =
      (definite_goes p inner.1 h.0, inner.0, h.1, subst (λ x. x ≤ strength_of net (Via p d n)) (sym (get_or_zeros (length net.nodes) n)) (omega arith))

  goes_definite : (floor : List ℕ) (p : Path) → Goes net s Definite floor p → IsDefinite s p
  goes_definite floor (Root r) h = tt
  goes_definite floor (Via p d n) h = (goes_definite floor p h.0, h.2)

  pub strongest_none : AreStrongestFrom net s 0 zeros
  strongest_none = record {
    above = λ p is_path inner definite lt. absurd (omega arith);
    reached = λ m. inl (get_or_zeros (length net.nodes) m);
  }

  pub strongest_more : (i : ℕ) (old new : List ℕ) → i < length net.nodes → AreStrongestFrom net s i old
      → Explores net s Definite zeros (set unmarked i true) i (strength_of net (Root i)) old new → AreStrongestFrom net s (i + 1) new
  strongest_more i old new lt h e = record {
    above = λ p is_path inner definite le. elim (ℕ_discrete (root_of p) i) [
      | yes eq ↦ e.reached (end_of p) (strength_of net p)
          (subst (λ r. Leads net s Definite zeros (set unmarked r true) r (strength_of net (Root r)) (end_of p) (strength_of net p)) eq
          (leads_to net well_formed s Definite zeros p is_path (definite_goes p inner definite)))
      | no ne ↦
          let a : strength_of net p ≤ get_or old (end_of p) 0 = h.above p is_path inner definite (omega arith) in
          let b : get_or old (end_of p) 0 ≤ get_or new (end_of p) 0 = e.kept (end_of p) in omega arith
    ];
    reached = λ m. elim (e.only m) [
      | inl same ↦ elim (h.reached m) [
        | inl z ↦ inl (same ∙ z)
        | inr d ↦ inr (subst (HasDefinite net s m) (sym same) d)
      ]
      | inr leads ↦
          let g = leads_from net well_formed s Definite zeros i m (get_or new m 0) lt (subst (λ x. x ≤ strength_of net (Root i)) (sym (get_or_zeros (length net.nodes) i)) (omega arith)) leads in
          inr (record { path = g.path; is_path = g.is_path; definite = goes_definite zeros g.path g.goes; ends = g.ends; strength = g.strength })
    ];
  }

  -- a definite path is no stronger than one that stops at input nodes, so these give the strongest of all
  pub strongest_all : (strongest : List ℕ) → AreStrongestFrom net s (length net.nodes) strongest → AreStrongest net s strongest
  strongest_all strongest from = record {
    above = λ p is_path definite.
        let short = shortened net s well_formed p is_path definite in
        let enough : strength_of net p ≤ strength_of net short.path = short.strength in
        let most : strength_of net short.path ≤ get_or strongest (end_of short.path) 0 =
        from.above short.path short.is_path short.inner short.definite (root_within net short.path short.is_path) in
        let same : get_or strongest (end_of short.path) 0 ≡ get_or strongest (end_of p) 0 = ap (λ n. get_or strongest n 0) short.ends in
        omega arith;
    reached = from.reached;
  }

  pub strongest_turn : (z : List ℕ) (a b : List Bool) (own i : ℕ) (old new : List ℕ) → z ≡ zeros → a ≡ unmarked → b ≡ a → own ≡ strength_of net (Root i)
      → i < length net.nodes → AreStrongestFrom net s i old → Explores net s Definite z (set b i true) i own old new → AreStrongestFrom net s (i + 1) new
  strongest_turn z a b own i old new ez ea eb eo lt h e =
      strongest_more i old new lt h
      (subst (λ x. Explores net s Definite x (set unmarked i true) i (strength_of net (Root i)) old new) ez
      (subst (λ x. Explores net s Definite z (set x i true) i (strength_of net (Root i)) old new) (eb ∙ ea)
      (subst (λ x. Explores net s Definite z (set b i true) i x old new) eo e)))

  module _ (strongest : List ℕ) (are : AreStrongest net s strongest) where
    none_stronger : (n k : ℕ) → get_or strongest n 0 ≤ k → HasStronger net s n k → ⊥
    none_stronger n k le b =
        let a : strength_of net b.path ≤ get_or strongest n 0 =
        subst (λ x. strength_of net b.path ≤ get_or strongest x 0) b.ends (are.above b.path b.is_path b.definite) in
        let c : k < strength_of net b.path = b.stronger in omega arith

    stronger_than : (n k : ℕ) → k < get_or strongest n 0 → HasStronger net s n k
    stronger_than n k lt = elim (are.reached n) [
      | inl z ↦ absurd (omega arith)
      | inr d ↦ record { path = d.path; is_path = d.is_path; ends = d.ends; definite = d.definite; stronger = subst (λ x. k < x) (sym d.strength) lt }
    ]

    floor_kept : (n k : ℕ) → (HasStronger net s n k → ⊥) → get_or strongest n 0 ≤ k
    floor_kept n k none = elim (dec_le (get_or strongest n 0) k) [
      | yes le ↦ le
      | no gt ↦ absurd (none (stronger_than n k (omega arith)))
    ]

    goes_unblocked : (p : Path) → Goes net s Potential strongest p → IsBlocked net s p → ⊥
    goes_unblocked (Root r) h b = none_stronger r _ h b
    goes_unblocked (Via p d n) h (inl b) = goes_unblocked p h.0 b
    goes_unblocked (Via p d n) h (inr b) = none_stronger n _ h.3 b

    goes_potential : (p : Path) → Goes net s Potential strongest p → IsPotential s p
    goes_potential (Root r) h = tt
    goes_potential (Via p d n) h = (goes_potential p h.0, h.2)

    unblocked_goes : (p : Path) → IsInner net p → IsPotential s p → (IsBlocked net s p → ⊥) → Goes net s Potential strongest p
    unblocked_goes (Root r) inner h unblocked = floor_kept r _ unblocked
    unblocked_goes (Via p d n) inner h unblocked =
        (unblocked_goes p inner.1 h.0 (λ b. unblocked (inl b)), inner.0, h.1, floor_kept n _ (λ b. unblocked (inr b)))

    blocked_at_root : (p : Path) → HasStronger net s (root_of p) (strength_of net (Root (root_of p))) → IsBlocked net s p
    blocked_at_root (Root r) b = b
    blocked_at_root (Via p d n) b = inl (blocked_at_root p b)

    -- a root that is blocked itself reaches nothing
    pub root_blocked : (root node : ℕ) → strength_of net (Root root) < get_or strongest root 0 → RootReaches net s root node → ⊥
    root_blocked root node lt r =
        r.reaches.unblocked (blocked_at_root r.path
        (subst (λ x. HasStronger net s x (strength_of net (Root x))) (sym r.from) (stronger_than root _ lt)))

    module _ (root node : ℕ) (new : List ℕ) (within : root < length net.nodes) (le : get_or strongest root 0 ≤ strength_of net (Root root))
        (e : Explores net s Potential strongest (set unmarked root true) root (strength_of net (Root root)) zeros new) where
      pub reached_root : 0 < get_or new node 0 → RootReaches net s root node
      reached_root pos = elim (e.only node) [
        | inl same ↦ let z : get_or zeros node 0 ≡ 0 = get_or_zeros (length net.nodes) node in absurd (omega arith)
        | inr leads ↦
            let g = leads_from net well_formed s Potential strongest root node (get_or new node 0) within le leads in
            record {
              path = g.path;
              from = g.from;
              reaches = record { is_path = g.is_path; ends = g.ends; potential = goes_potential g.path g.goes; unblocked = goes_unblocked g.path g.goes };
            }
      ]

      pub root_reached : RootReaches net s root node → 0 < get_or new node 0
      root_reached r =
          let l = leads_to net well_formed s Potential strongest r.path r.reaches.is_path (unblocked_goes r.path (unblocked_inner net s well_formed r.path r.reaches.is_path r.reaches.unblocked) r.reaches.potential r.reaches.unblocked) in
          let m : Leads net s Potential strongest (set unmarked root true) root (strength_of net (Root root)) node (strength_of net r.path) =
          subst (λ x. Leads net s Potential strongest (set unmarked root true) root (strength_of net (Root root)) x (strength_of net r.path)) r.reaches.ends
          (subst (λ x. Leads net s Potential strongest (set unmarked x true) x (strength_of net (Root x)) (end_of r.path) (strength_of net r.path)) r.from l) in
          let a : strength_of net r.path ≤ get_or new node 0 = e.reached node (strength_of net r.path) m in
          let b : 0 < strength_of net r.path = strength_of-pos net well_formed r.path r.reaches.is_path in omega arith

module _ (net : Circuit) (well_formed : IsWellFormed net) (s : List Trit) (strongest : List ℕ) (are : AreStrongest net s strongest) where
  pub reaches_turn : (z : List ℕ) (on : List Bool) (own root node : ℕ) (new : List ℕ) → z ≡ replicate (length net.nodes) 0 → on ≡ replicate (length net.nodes) false
      → own ≡ strength_of net (Root root) → root < length net.nodes → get_or strongest root 0 ≤ own
      → Explores net s Potential strongest (set on root true) root own z new → (0 < get_or new node 0) ↔ RootReaches net s root node
  reaches_turn z on own root node new ez eon eo lt le e =
      let e' = subst (λ x. Explores net s Potential strongest (set (replicate (length net.nodes) false) root true) root (strength_of net (Root root)) x new) ez
      (subst (λ x. Explores net s Potential strongest (set x root true) root (strength_of net (Root root)) z new) eon
      (subst (λ x. Explores net s Potential strongest (set on root true) root x z new) eo e)) in
      let le' : get_or strongest root 0 ≤ strength_of net (Root root) = subst (λ x. get_or strongest root 0 ≤ x) eo le in
      (reached_root net well_formed s strongest are root node new lt le' e', root_reached net well_formed s strongest are root node new lt le' e')
