-- The cells of library instances are sound cells of the library.
use Rattle.std.proofs.Common.{◌≡◌, ℕ, ◌+◌, ◌<◌, List, length, inl, inr, refl, sym, ◌∙◌, ap, subst, arith}
use Rattle.std.proofs.Common.{get_or}
use Rattle.std.specs.Prelude.{Option, Some, None, IsSomeAnd, slice_get}
use Rattle.std.proofs.lemmas.List.{get_or_past}
use Rattle.std.proofs.lemmas.Bool.{cases_lt}
use Rattle.std.proofs.lemmas.Option.{slice_get_within, slice_get-get_or}
use Rattle.ca_cell.specs.declared.rule.CellRule.TheVariants.{NoRail}
use Rattle.ca_cell.specs.Rules.{KeepsRules}
use Rattle.ca_linked.specs.Linked.{Gate, Part, LinkedChip, no_cell, cell_of, IsBody, IsGate, IsLibrary, IsWired}
use Rattle.ca_linked.specs.Instances.{IsNamedGate}
use Rattle.ca_linked.specs.code.Instances.{HasNamed}
use Rattle.ca_linked.proofs.OrderLemmas.{place_of, contained_at}
use Rattle.ca_linked.proofs.PartLemmas.{of_all}

-- what is read of the parts at the place of a library instance is its part
pub part_read : (parts : List Part) (u : ℕ) (part : Part) → IsSomeAnd (slice_get parts u) (λ p. IsGate p.body)
    → part ≡ get_or parts u part → slice_get parts u ≡ Some part
part_read parts u part gate read = by (slice_get parts u) refl gate
  where
    by : (o : Option Part) → slice_get parts u ≡ o → IsSomeAnd o (λ p. IsGate p.body) → slice_get parts u ≡ Some part
    by None there gate = elim gate [ ]
    by (Some other) there gate =
        slice_get-get_or parts u part (slice_get_within parts u other there) ∙ ap Some (sym read)

-- if it is the one of a name, then its part has that name
pub named_at : (chip : LinkedChip) (k u : ℕ) (kept name : List ℕ) → slice_get chip.order k ≡ Some u
    → IsSomeAnd (slice_get chip.parts u) (λ part. part.name ≡ kept)
    → (w : ℕ) → slice_get chip.order k ≡ Some w → IsNamedGate chip name w → kept ≡ name
named_at chip k u kept name at named w at_w found =
    let same : u ≡ w = cc in
    let there : slice_get chip.parts u ≡ Some found.part = ap (slice_get chip.parts) same ∙ found.at in
    sym (subst (λ (o : Option Part). IsSomeAnd o (λ part. part.name ≡ kept)) there named) ∙ found.named

module _ (chip : LinkedChip) (is : IsWired chip) where
  -- the cell of a library instance keeps the rules
  pub gate_keeps : (u : ℕ) (part : Part) (cell : ℕ) (inputs outputs : List ℕ) → slice_get chip.parts u ≡ Some part
      → part.body ≡ Gate cell inputs outputs → KeepsRules (cell_of chip.cells cell)
  gate_keeps u part cell inputs outputs at body =
      (subst (IsBody chip.cells) body (of_all (λ (p : Part). IsBody chip.cells p.body) chip.parts u part is.bodies at)).keeps

  -- it is one of the library's: what is past the last cell keeps no rule on rails
  pub gate_within : (u : ℕ) (part : Part) (cell : ℕ) (inputs outputs : List ℕ) → slice_get chip.parts u ≡ Some part
      → part.body ≡ Gate cell inputs outputs → cell < length chip.cells
  gate_within u part cell inputs outputs at body = elim (cases_lt cell (length chip.cells)) [
    | inl within ↦ within
    | inr past ↦ absurd (subst KeepsRules (get_or_past chip.cells cell no_cell past)
        (gate_keeps u part cell inputs outputs at body) NoRail (inl refl))
  ]

  -- an instance of the order is one of the library
  pub ordered_is_library : (k u : ℕ) → slice_get chip.order k ≡ Some u → IsLibrary chip u
  ordered_is_library k u at = (is.ordered.has u).0 (contained_at chip.order k u at)

  pub library_within : (k u : ℕ) → slice_get chip.order k ≡ Some u → u < length chip.parts
  library_within k u at = by (slice_get chip.parts u) refl (ordered_is_library k u at)
    where
      by : (o : Option Part) → slice_get chip.parts u ≡ o → IsSomeAnd o (λ p. IsGate p.body) → u < length chip.parts
      by None there gate = elim gate [ ]
      by (Some part) there gate = slice_get_within chip.parts u part there

  -- and has the name that its part has
  pub has_named : (k u : ℕ) (name : List ℕ) → slice_get chip.order k ≡ Some u
      → IsSomeAnd (slice_get chip.parts u) (λ part. part.name ≡ name) → HasNamed chip name k
  has_named k u name at named = by (slice_get chip.parts u) refl (ordered_is_library k u at) named
    where
      by : (o : Option Part) → slice_get chip.parts u ≡ o → IsSomeAnd o (λ p. IsGate p.body)
          → IsSomeAnd o (λ part. part.name ≡ name) → HasNamed chip name k
      by None there gate same = elim gate [ ]
      by (Some part) there gate same =
          record { u = u; at = at; is = record { part = part; at = there; is_gate = gate; named = same } }

  -- where no instance of the order has the name, no library instance has
  pub none_named : (name : List ℕ) → ((j u : ℕ) → j < length chip.order → slice_get chip.order j ≡ Some u
      → IsNamedGate chip name u → ⊥) → (u : ℕ) → IsNamedGate chip name u → ⊥
  none_named name none u found =
      let library : IsLibrary chip u =
      subst (λ (o : Option Part). IsSomeAnd o (λ p. IsGate p.body)) (sym found.at) found.is_gate in
      let there = (is.ordered.has u).1 library in
      none there.0 u there.1 (place_of chip.order u there) found

  -- one place more
  pub none_more : (name : List ℕ) (k : ℕ) → ((j u : ℕ) → j < k → slice_get chip.order j ≡ Some u
      → IsNamedGate chip name u → ⊥) → ((u : ℕ) → slice_get chip.order k ≡ Some u → IsNamedGate chip name u → ⊥)
      → (j u : ℕ) → j < k + 1 → slice_get chip.order j ≡ Some u → IsNamedGate chip name u → ⊥
  none_more name k before here j u lt at found = elim (cases_lt j k) [
    | inl less ↦ before j u less at found
    | inr ge ↦
        let same : j ≡ k = omega arith in
        here u (ap (slice_get chip.order) (sym same) ∙ at) found
  ]
