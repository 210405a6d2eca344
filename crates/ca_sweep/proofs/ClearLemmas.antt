-- An instance is clear where its output nets are definite, and all that read one pass flips on.
use Rattle.std.proofs.Common.{◌≡◌, ℕ, ◌+◌, ◌<◌, Bool, true, false, List, [], ◌∷◌, length, get_or, set, replicate, sym, ◌∙◌, ap, subst, arith, inl, inr}
use Rattle.std.proofs.lemmas.Bool.{cases_eq, cases_lt}
use Rattle.std.proofs.lemmas.List.{get_or-set_same, get_or-set_other, length-set, get_or-replicate, get_or_past, length-replicate}
use Rattle.ca_net.specs.declared.trit.Trit.{Trit}
use Rattle.ca_flat.specs.Chip.{Chip, cell_at, inputs_at, outputs_at, net_of, count_of}
use Rattle.ca_flat.specs.Chain.{IsChain}
use Rattle.ca_flips.specs.Static.{IsStatic}
use Rattle.ca_flips.specs.Flips.{IsAfter}
use Rattle.ca_view.specs.Linked.{Reads, IsLinked, IsPlaced}
use Rattle.ca_sweep.specs.Seen.{IsClear}
use Rattle.ca_sweep.specs.Tables.{AreMarks, is_marked}
use Rattle.ca_sweep.specs.code.Kept.{IsPassing, AreDefinitePins, AreOutputsClear, AreAllDefinite, AreAllStatic}

module _ (chip : Chip) (goods : ℕ → Trit) where
  -- what holds of an instance that a chain from the net leads to, where all that read the net pass flips on
  module _ (w pin : ℕ) (known : w < count_of chip) (within : pin < inputs_at chip w) where
    passes_on : (from : ℕ) (path : List ℕ) → ((reader : ℕ) → Reads chip reader from → IsPassing chip goods reader) → IsChain chip from path (net_of chip w pin)
        → IsStatic (cell_at chip w) × AreDefinitePins chip goods w
    passes_on from [] passing chain =
        let is = passing w (record { known = known; pin = pin; within = within; on = sym chain }) in
        (is.cell_static, is.pins)
    passes_on from (next ∷ more) passing chain =
        let feeds = chain.0 in
        let first = passing feeds.instance (record { known = feeds.known; pin = feeds.pin; within = feeds.pin_within; on = feeds.reads }) in
        let following : IsAfter chip feeds.instance w = record {
          known = known;
          pin = pin;
          within = within;
          reached = record {
            from = next;
            is_output = record { output = feeds.output; within = feeds.output_within; on = feeds.drives };
            leads = record { path = more; is_chain = chain.1 };
          };
        } in
        (first.clear.all_static w following, λ p p_within. first.clear.definite.read w p following p_within)

  pub clear_of : (marks : List Bool) (u : ℕ) → AreMarks chip (IsPassing chip goods) marks → AreOutputsClear chip goods marks u (outputs_at chip u) → IsClear chip goods u
  clear_of marks u are clear = record {
    all_static = λ w following. (passed w following).0;
    definite = record {
      outputs = λ output within. (clear output within).0;
      read = λ w pin following within. (passed w following).1 pin within;
    };
  }
    where
      passed : (w : ℕ) → IsAfter chip u w → IsStatic (cell_at chip w) × AreDefinitePins chip goods w
      passed w following =
          let out = following.reached.is_output in
          passes_on w following.pin following.known following.within following.reached.from following.reached.leads.path
          (λ reader reads. are.each reader ((clear out.output out.within).1 reader (subst (Reads chip reader) (sym out.on) reads)))
          following.reached.leads.is_chain

-- one instance more is marked, or not
pub marks_put : (chip : Chip) (P : ℕ → Type 0) (old new : List Bool) (u : ℕ) (mark : Bool) → AreMarks chip P old → u < count_of chip → new ≡ set old u mark
    → (mark ≡ true → P u) → AreMarks chip P new
marks_put chip P old new u mark are known is holds = record {
  room = ap length is ∙ length-set old u mark ∙ are.room;
  each = λ w marked. elim (cases_eq w u) [
    | inl e ↦ subst P (sym e) (holds (sym (ap (λ list. get_or list u false) is ∙ get_or-set_same old u mark false (let r = are.room in omega arith))
        ∙ ap (λ k. get_or new k false) (sym e) ∙ marked))
    | inr other ↦ are.each w (sym (ap (λ list. get_or list w false) is ∙ get_or-set_other old u w mark false other) ∙ marked)
  ];
}

-- nothing is marked
pub marks_none : (chip : Chip) (P : ℕ → Type 0) (marks : List Bool) → length marks ≡ count_of chip → ((u : ℕ) → is_marked marks u ≡ true → ⊥) → AreMarks chip P marks
marks_none chip P marks room none = record { room = room; each = λ u marked. absurd (none u marked) }

-- nor in new marks
pub marks_new : (chip : Chip) (P : ℕ → Type 0) (marks : List Bool) (count : ℕ) → count ≡ count_of chip → marks ≡ replicate count false → AreMarks chip P marks
marks_new chip P marks count counted is = record {
  room = ap length is ∙ length-replicate count false ∙ counted;
  each = λ u marked. let e : false ≡ true = sym (unmarked u) ∙ ap (λ list. get_or list u false) (sym is) ∙ marked in cc;
}
  where
    unmarked : (u : ℕ) → get_or (replicate count false) u false ≡ false
    unmarked u = elim (cases_lt u count) [
      | inl low ↦ get_or-replicate count u false false low
      | inr high ↦ get_or_past (replicate count false) u false (let l = length-replicate count false in omega arith)
    ]

-- where all cells are static and the values at all pins of instances with a place are definite, each of these
-- instances is clear
pub all_clear : (chip : Chip) (place_of number_of : ℕ → ℕ) (goods : ℕ → Trit) → IsLinked chip place_of number_of → AreAllStatic chip place_of
    → AreAllDefinite chip place_of goods → (u : ℕ) → IsPlaced chip place_of u → IsClear chip goods u
all_clear chip place_of number_of goods linked static definite u placed = record {
  all_static = λ w following. static w (record { known = following.known; placed = has_place w _ following.known following.within });
  definite = record {
    outputs = λ output within. definite u placed (inputs_at chip u + output) (omega arith);
    read = λ w pin following within. definite w (record { known = following.known; placed = has_place w pin following.known within }) pin (omega arith);
  };
}
  where
    has_place : (w pin : ℕ) → w < count_of chip → pin < inputs_at chip w → 0 < place_of w
    has_place w pin known within = elim (cases_lt 0 (place_of w)) [
      | inl some ↦ some
      | inr none ↦ let no_pin = (linked.bare w known (omega arith)).no_pin in absurd (omega arith)
    ]

-- marks with which the property comes
pub marks_by : (chip : Chip) (P Q : ℕ → Type 0) (marks : List Bool) → AreMarks chip P marks → ((u : ℕ) → P u → Q u) → AreMarks chip Q marks
marks_by chip P Q marks are by = record { room = are.room; each = λ u marked. by u (are.each u marked) }
