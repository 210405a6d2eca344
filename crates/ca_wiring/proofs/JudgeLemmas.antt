-- The first rule that an instance breaks is the first of the netlist, where those before it keep theirs.
use Rattle.std.proofs.Common.{◌≡◌, ℕ, ◌+◌, ◌<◌, List, [], ◌∷◌, inl, inr, refl, sym, ◌∙◌, ap, subst, arith}
use Rattle.std.proofs.Common.{◌⊎◌}
use Rattle.std.specs.Prelude.{Some, slice_get}
use native.Mathlib.Decide.{ℕ_discrete}
use Rattle.ca_cell.specs.declared.rule.CellRule.{CellRule}
use Rattle.ca_cell.specs.Library.{Named}
use Rattle.ca_verilog.specs.declared.raw.RawUse.{RawUse}
use Rattle.ca_verilog.specs.declared.raw.RawInstance.{RawInstance}
use Rattle.ca_verilog.specs.declared.raw.RawNetlist.{RawNetlist}
use Rattle.ca_wiring.specs.declared.scan_row.ScanRow.{ScanRow}
use Rattle.ca_wiring.specs.declared.fault.ChipFault.{ChipFault}
use Rattle.ca_wiring.specs.declared.fault.ChipFault.TheVariants as fault
use Rattle.ca_wiring.specs.Wiring.{Meaning, Unknown, Broken, Library, ScanCell, meaning_of}
use Rattle.ca_wiring.specs.InstanceRules.{IsKnown, HasStrayPin, LacksPin, IsSound}
use Rattle.ca_wiring.specs.Rules.{IsEarlier, OfInstance, BreaksAt, IsCause}
use Rattle.ca_wiring.specs.code.Pins.{NoStray, IsFirstStray, IsFirstOpen, IsInstanceCause, AreSoundFirst}
use Rattle.ca_linked.proofs.FeedingLemmas.{item_of}
use Rattle.ca_linked.proofs.DriverLemmas.{to_some}

-- the cell of the instance is unknown or refused, at the first place of its rules
pub record IsUnsound (meaning : Meaning) (tail : List ℕ) : Type 0 where
  pub at : tail ≡ 0 ∷ []
  pub unsound : IsKnown meaning → ⊥

-- a connection is stray, at the places after it
pub record IsStrayAt (meaning : Meaning) (uses : List RawUse) (tail : List ℕ) : Type 0 where
  pub place : ℕ
  pub pin : List ℕ
  pub at : tail ≡ 1 ∷ place ∷ []
  pub stray : HasStrayPin meaning uses place pin

-- an input pin is open, at the last places
pub record IsOpenAt (meaning : Meaning) (uses : List RawUse) (tail : List ℕ) : Type 0 where
  pub place : ℕ
  pub pin : List ℕ
  pub at : tail ≡ 2 ∷ place ∷ []
  pub lacks : LacksPin meaning uses place pin

-- the instance breaks one of its rules, at this place among them
abbrev pub BreaksPart : Meaning → List RawUse → List ℕ → Type 0
BreaksPart meaning uses tail = IsUnsound meaning tail ⊎ (IsStrayAt meaning uses tail ⊎ IsOpenAt meaning uses tail)

unknown_unsound : (meaning : Meaning) → meaning ≡ Unknown → IsKnown meaning → ⊥
unknown_unsound Unknown e known = known
unknown_unsound (Broken rule) e known = known
unknown_unsound (Library raw) e known = let clash : Library raw ≡ Unknown = e in cc
unknown_unsound (ScanCell row) e known = let clash : ScanCell row ≡ Unknown = e in cc

broken_unsound : (meaning : Meaning) (rule : CellRule) → meaning ≡ Broken rule → IsKnown meaning → ⊥
broken_unsound Unknown rule e known = known
broken_unsound (Broken other) rule e known = known
broken_unsound (Library raw) rule e known = let clash : Library raw ≡ Broken rule = e in cc
broken_unsound (ScanCell row) rule e known = let clash : ScanCell row ≡ Broken rule = e in cc

module _ (raw : RawNetlist) (library : List Named) (scan : List ScanRow) where
  abbrev means : RawInstance → Meaning
  means instance = meaning_of library scan instance.cell

  -- an instance breaks one of its rules, at this place
  pub record IsOfInstance (at : List ℕ) : Type 0 where
    pub u : ℕ
    pub tail : List ℕ
    pub place : at ≡ 1 ∷ u ∷ tail
    pub instance : RawInstance
    pub is : slice_get raw.instances u ≡ Some instance
    pub breaks : BreaksPart (means instance) instance.pins tail

  -- a rule after those on instances
  pub record IsAfter (at : List ℕ) : Type 0 where
    pub stage : ℕ
    pub tail : List ℕ
    pub place : at ≡ stage ∷ tail
    pub later : 1 < stage

  -- which rule is broken at a place
  pub stage_of : (at : List ℕ) (broken : ChipFault) → BreaksAt raw library scan at broken → IsOfInstance at ⊎ IsAfter at
  stage_of at (fault.UnknownCell u) (place, has) =
      let found = item_of raw.instances u.0 (λ instance. means instance ≡ Unknown) has in
      inl (record {
        u = u.0;
        tail = 0 ∷ [];
        place = place;
        instance = found.item;
        is = found.at;
        breaks = inl (record { at = refl; unsound = unknown_unsound (means found.item) found.has });
      })
  stage_of at (fault.Cell u rule) (place, has) =
      let found = item_of raw.instances u.0 (λ instance. means instance ≡ Broken rule) has in
      inl (record {
        u = u.0;
        tail = 0 ∷ [];
        place = place;
        instance = found.item;
        is = found.at;
        breaks = inl (record { at = refl; unsound = broken_unsound (means found.item) rule found.has });
      })
  stage_of at (fault.UnknownPin u pin) (k, place, has) =
      let found = item_of raw.instances u.0 (λ instance. HasStrayPin (means instance) instance.pins k pin) has in
      inl (record {
        u = u.0;
        tail = 1 ∷ k ∷ [];
        place = place;
        instance = found.item;
        is = found.at;
        breaks = inr (inl (record { place = k; pin = pin; at = refl; stray = found.has }));
      })
  stage_of at (fault.MissingPin u pin) (k, place, has) =
      let found = item_of raw.instances u.0 (λ instance. LacksPin (means instance) instance.pins k pin) has in
      inl (record {
        u = u.0;
        tail = 2 ∷ k ∷ [];
        place = place;
        instance = found.item;
        is = found.at;
        breaks = inr (inr (record { place = k; pin = pin; at = refl; lacks = found.has }));
      })
  stage_of at (fault.DoubleDriven net first second) breaks = inr (record { stage = 2; tail = net.0 ∷ []; place = breaks.0; later = omega arith })
  stage_of at (fault.Undriven net) breaks = inr (record { stage = 2; tail = net.0 ∷ []; place = breaks.0; later = omega arith })
  stage_of at (fault.ControlPin u pin) breaks = inr (record { stage = 3; tail = u.0 ∷ breaks.0 ∷ []; place = breaks.1; later = omega arith })
  stage_of at (fault.ControlObserved net) breaks = inr (record { stage = 4; tail = net.0 ∷ []; place = breaks.0; later = omega arith })
  stage_of at (fault.QnUsed u) breaks = inr (record { stage = 3; tail = u.0 ∷ 3 ∷ []; place = breaks.0; later = omega arith })
  stage_of at (fault.Loop instances) breaks = inr (record { stage = 5; tail = []; place = breaks.0; later = omega arith })
  stage_of at (fault.TooManyInstances count) breaks = inr (record { stage = 6; tail = 0 ∷ []; place = breaks.0; later = omega arith })
  stage_of at (fault.TooManyInputs count) breaks = inr (record { stage = 6; tail = 1 ∷ []; place = breaks.0; later = omega arith })
  stage_of at (fault.TooManyOutputs count) breaks = inr (record { stage = 6; tail = 2 ∷ []; place = breaks.0; later = omega arith })
  stage_of at (fault.TooManyDefects count) breaks = inr (record { stage = 6; tail = 3 ∷ []; place = breaks.0; later = omega arith })
  stage_of at fault.NoMemory breaks = absurd breaks

  -- an instance that keeps its rules breaks none
  pub sound_keeps : (meaning : Meaning) (uses : List RawUse) (tail : List ℕ) → IsSound meaning uses → BreaksPart meaning uses tail → ⊥
  sound_keeps meaning uses tail sound (inl unsound) = unsound.unsound sound.known
  sound_keeps meaning uses tail sound (inr (inl stray)) = sound.no_stray stray.place stray.pin stray.stray
  sound_keeps meaning uses tail sound (inr (inr lacks)) = sound.no_open lacks.place lacks.pin lacks.lacks

  module _ (u : ℕ) (instance : RawInstance) (is : slice_get raw.instances u ≡ Some instance) (before : AreSoundFirst u raw library scan) where
    -- no rule is broken before this place, where the instance breaks none before it
    none_earlier : (here : List ℕ) → ((tail : List ℕ) → IsEarlier tail here → BreaksPart (means instance) instance.pins tail → ⊥)
        → (at : List ℕ) (other : ChipFault) → IsEarlier at (1 ∷ u ∷ here) → BreaksAt raw library scan at other → ⊥
    none_earlier here none at other earlier breaks = elim (stage_of at other breaks) [
      | inl part ↦ of_part part (subst (λ x. IsEarlier x (1 ∷ u ∷ here)) part.place earlier)
      | inr following ↦ of_after following (subst (λ x. IsEarlier x (1 ∷ u ∷ here)) following.place earlier)
    ]
      where
        of_after : (following : IsAfter at) → IsEarlier (following.stage ∷ following.tail) (1 ∷ u ∷ here) → ⊥
        of_after following (inl lt) = let later = following.later in omega (arith, lt, later)
        of_after following (inr rest) = let later = following.later in let e = rest.0 in omega (arith, e, later)

        of_part : (part : IsOfInstance at) → IsEarlier (1 ∷ part.u ∷ part.tail) (1 ∷ u ∷ here) → ⊥
        of_part part (inl lt) = omega (arith, lt)
        of_part part (inr (e, inl lt)) =
            sound_keeps (means part.instance) part.instance.pins part.tail (before part.u part.instance lt part.is) part.breaks
        of_part part (inr (e, inr (same, rest))) =
            let both : Some part.instance ≡ Some instance = sym part.is ∙ ap (slice_get raw.instances) same ∙ is in
            let one : part.instance ≡ instance = cc in
            none part.tail rest (subst (λ (i : RawInstance). BreaksPart (means i) i.pins part.tail) one part.breaks)

    -- nothing is before the first place of an instance
    none_first : (tail : List ℕ) → IsEarlier tail (0 ∷ []) → BreaksPart (means instance) instance.pins tail → ⊥
    none_first tail earlier (inl b) = by (subst (λ x. IsEarlier x (0 ∷ [])) b.at earlier)
      where
        by : IsEarlier (0 ∷ []) (0 ∷ []) → ⊥
        by (inl lt) = omega (arith, lt)
        by (inr rest) = rest.1
    none_first tail earlier (inr (inl b)) = by (subst (λ x. IsEarlier x (0 ∷ [])) b.at earlier)
      where
        by : IsEarlier (1 ∷ b.place ∷ []) (0 ∷ []) → ⊥
        by (inl lt) = omega (arith, lt)
        by (inr rest) = rest.1
    none_first tail earlier (inr (inr b)) = by (subst (λ x. IsEarlier x (0 ∷ [])) b.at earlier)
      where
        by : IsEarlier (2 ∷ b.place ∷ []) (0 ∷ []) → ⊥
        by (inl lt) = omega (arith, lt)
        by (inr rest) = rest.1

    none_stray : IsKnown (means instance) → (pin : List ℕ) (first : IsFirstStray (means instance) instance.pins pin)
        → (tail : List ℕ) → IsEarlier tail (1 ∷ first.place ∷ []) → BreaksPart (means instance) instance.pins tail → ⊥
    none_stray known pin first tail earlier (inl b) = b.unsound known
    none_stray known pin first tail earlier (inr (inl b)) = by (subst (λ x. IsEarlier x (1 ∷ first.place ∷ [])) b.at earlier)
      where
        by : IsEarlier (1 ∷ b.place ∷ []) (1 ∷ first.place ∷ []) → ⊥
        by (inl lt) = omega (arith, lt)
        by (inr (e, inl lt)) = first.none_before b.place b.pin lt b.stray
        by (inr (e, inr rest)) = rest.1
    none_stray known pin first tail earlier (inr (inr b)) = by (subst (λ x. IsEarlier x (1 ∷ first.place ∷ [])) b.at earlier)
      where
        by : IsEarlier (2 ∷ b.place ∷ []) (1 ∷ first.place ∷ []) → ⊥
        by (inl lt) = omega (arith, lt)
        by (inr rest) = let e = rest.0 in omega (arith, e)

    none_open : IsKnown (means instance) → NoStray (means instance) instance.pins → (pin : List ℕ) (first : IsFirstOpen (means instance) instance.pins pin)
        → (tail : List ℕ) → IsEarlier tail (2 ∷ first.place ∷ []) → BreaksPart (means instance) instance.pins tail → ⊥
    none_open known no_stray pin first tail earlier (inl b) = b.unsound known
    none_open known no_stray pin first tail earlier (inr (inl b)) = no_stray b.place b.pin b.stray
    none_open known no_stray pin first tail earlier (inr (inr b)) = by (subst (λ x. IsEarlier x (2 ∷ first.place ∷ [])) b.at earlier)
      where
        by : IsEarlier (2 ∷ b.place ∷ []) (2 ∷ first.place ∷ []) → ⊥
        by (inl lt) = omega (arith, lt)
        by (inr (e, inl lt)) = first.none_before b.place b.pin lt b.lacks
        by (inr (e, inr rest)) = rest.1

    pub is_cause : (broken : ChipFault) → IsInstanceCause u (means instance) instance.pins broken → IsCause raw library scan broken
    is_cause (fault.UnknownCell v) (same, unknown) = record {
      at = 1 ∷ u ∷ 0 ∷ [];
      breaks = (
        ap (λ n. 1 ∷ n ∷ 0 ∷ []) (sym same),
        subst (λ n. OfInstance raw library scan n (λ meaning uses. meaning ≡ Unknown)) (sym same)
            (to_some (λ (i : RawInstance). means i ≡ Unknown) (slice_get raw.instances u) instance is unknown),
      );
      none_before = none_earlier (0 ∷ []) none_first;
    }
    is_cause (fault.Cell v rule) (same, refused) = record {
      at = 1 ∷ u ∷ 0 ∷ [];
      breaks = (
        ap (λ n. 1 ∷ n ∷ 0 ∷ []) (sym same),
        subst (λ n. OfInstance raw library scan n (λ meaning uses. meaning ≡ Broken rule)) (sym same)
            (to_some (λ (i : RawInstance). means i ≡ Broken rule) (slice_get raw.instances u) instance is refused),
      );
      none_before = none_earlier (0 ∷ []) none_first;
    }
    is_cause (fault.UnknownPin v pin) (same, known, first) = record {
      at = 1 ∷ u ∷ 1 ∷ first.place ∷ [];
      breaks = (
        first.place,
        ap (λ n. 1 ∷ n ∷ 1 ∷ first.place ∷ []) (sym same),
        subst (λ n. OfInstance raw library scan n (λ meaning uses. HasStrayPin meaning uses first.place pin)) (sym same)
            (to_some (λ (i : RawInstance). HasStrayPin (means i) i.pins first.place pin) (slice_get raw.instances u) instance is first.here),
      );
      none_before = none_earlier (1 ∷ first.place ∷ []) (none_stray known pin first);
    }
    is_cause (fault.MissingPin v pin) (same, known, no_stray, first) = record {
      at = 1 ∷ u ∷ 2 ∷ first.place ∷ [];
      breaks = (
        first.place,
        ap (λ n. 1 ∷ n ∷ 2 ∷ first.place ∷ []) (sym same),
        subst (λ n. OfInstance raw library scan n (λ meaning uses. LacksPin meaning uses first.place pin)) (sym same)
            (to_some (λ (i : RawInstance). LacksPin (means i) i.pins first.place pin) (slice_get raw.instances u) instance is first.here),
      );
      none_before = none_earlier (2 ∷ first.place ∷ []) (none_open known no_stray pin first);
    }
    is_cause (fault.DoubleDriven net first second) cause = absurd cause
    is_cause (fault.Undriven net) cause = absurd cause
    is_cause (fault.ControlPin v pin) cause = absurd cause
    is_cause (fault.ControlObserved net) cause = absurd cause
    is_cause (fault.QnUsed v) cause = absurd cause
    is_cause (fault.Loop instances) cause = absurd cause
    is_cause (fault.TooManyInstances count) cause = absurd cause
    is_cause (fault.TooManyInputs count) cause = absurd cause
    is_cause (fault.TooManyOutputs count) cause = absurd cause
    is_cause (fault.TooManyDefects count) cause = absurd cause
    is_cause fault.NoMemory cause = tt

    -- one more instance keeps its rules
    pub sound_more : IsSound (means instance) instance.pins → AreSoundFirst (u + 1) raw library scan
    sound_more sound v other lt at = elim (ℕ_discrete v u) [
      | yes same ↦
          let both : Some instance ≡ Some other = sym is ∙ ap (slice_get raw.instances) (sym same) ∙ at in
          let one : instance ≡ other = cc in
          subst (λ (i : RawInstance). IsSound (means i) i.pins) one sound
      | no ne ↦ before v other (omega (arith, lt, ne)) at
    ]
