-- The net that a fault names is known by the wire that the code finds.
use Rattle.std.proofs.Common.{◌≡◌, ℕ, ◌+◌, ◌<◌, ◌∙◌, ◌⊎◌, List, [], ◌∷◌, inl, inr, refl, sym, subst, arith, Result, Ok, Err}
use Rattle.std.proofs.lemmas.Bool.{lt-ltb, le-ltb}
use Rattle.std.proofs.lemmas.Option.{same_Some}
use Rattle.std.specs.Prelude.{Some, None, slice_get, IfOk}
use Rattle.ca_cell.specs.Library.{Named}
use Rattle.ca_verilog.specs.declared.raw.RawInstance.{RawInstance}
use Rattle.ca_verilog.specs.declared.raw.RawNetlist.{RawNetlist}
use Rattle.ca_linked.specs.declared.parts.NetId.{NetId}
use Rattle.ca_wiring.specs.declared.scan_row.ScanRow.{ScanRow}
use Rattle.ca_wiring.specs.declared.fault.Driver.{Driver}
use Rattle.ca_wiring.specs.declared.fault.ChipFault.{ChipFault}
use Rattle.ca_wiring.specs.declared.fault.ChipFault.TheVariants as fault
use Rattle.ca_wiring.specs.Wiring.{Meaning, Unknown, Broken, Library, ScanCell, meaning_of, wiring_of}
use Rattle.ca_wiring.specs.InstanceRules.{AreSound, HasStrayPin, IsKnown, LacksPin}
use Rattle.ca_wiring.specs.Rules.{BreaksAt, IsCause, IsEarlier, IsFirstBroken, IsNetAt}
use Rattle.ca_linked.proofs.DriverLemmas.{to_some}
use Rattle.ca_verilog.specs.IsNetlist.{bit_count}
use Rattle.ca_fault_place.specs.Names.{wire_name, wire_text}
use Rattle.ca_fault_place.specs.Place.{OfNet, ReportsPlace, double_text, net_text}
use Rattle.ca_fault_place.specs.code.Touched.{IsFoundFor, IsTextOfNet}

module _ (raw : RawNetlist) (library : List Named) (scan : List ScanRow) where
  -- where no rule on an instance is broken, each instance keeps its rules
  sound_where : ((u : ℕ) (tail : List ℕ) (broken : ChipFault) → BreaksAt raw library scan (1 ∷ u ∷ tail) broken → ⊥) → AreSound raw library scan
  sound_where none u instance at = record {
    known = by (meaning_of library scan instance.cell) refl;
    no_stray = λ place pin stray. none u (1 ∷ place ∷ []) (fault.UnknownPin (record { 0 = u }) pin)
        (place, refl, to_some (λ (i : RawInstance). Stray i place pin) (slice_get raw.instances u) instance at stray);
    no_open = λ place pin lacks. none u (2 ∷ place ∷ []) (fault.MissingPin (record { 0 = u }) pin)
        (place, refl, to_some (λ (i : RawInstance). Lacks i place pin) (slice_get raw.instances u) instance at lacks);
  }
    where
      Stray : RawInstance → ℕ → List ℕ → Type 0
      Stray i place pin = HasStrayPin (meaning_of library scan i.cell) i.pins place pin

      Lacks : RawInstance → ℕ → List ℕ → Type 0
      Lacks i place pin = LacksPin (meaning_of library scan i.cell) i.pins place pin

      by : (meaning : Meaning) → meaning_of library scan instance.cell ≡ meaning → IsKnown meaning
      by Unknown means = absurd (none u (0 ∷ []) (fault.UnknownCell (record { 0 = u }))
          (refl, to_some (λ (i : RawInstance). meaning_of library scan i.cell ≡ Unknown) (slice_get raw.instances u) instance at means))
      by (Broken rule) means = absurd (none u (0 ∷ []) (fault.Cell (record { 0 = u }) rule)
          (refl, to_some (λ (i : RawInstance). meaning_of library scan i.cell ≡ Broken rule) (slice_get raw.instances u) instance at means))
      by (Library raw) means = tt
      by (ScanCell row) means = tt

  -- a rule after those on instances is the first that is broken
  sound_before : (stage : ℕ) (tail : List ℕ) (broken : ChipFault) (first : IsFirstBroken raw library scan broken) → first.at ≡ stage ∷ tail
      → 1 < stage → AreSound raw library scan
  sound_before stage tail broken first at later =
      sound_where (λ u rest other breaks. first.none_before (1 ∷ u ∷ rest) other (subst (IsEarlier (1 ∷ u ∷ rest)) (sym at) (inl later)) breaks)

  -- a net that makes the text, and that is there
  text_at : (net : ℕ) (text_of : List ℕ → List ℕ) (text : List ℕ) → AreSound raw library scan → IsTextOfNet raw net text_of text
      → (wire : ℕ) → IsNetAt (wiring_of raw library scan) net wire → OfNet raw library scan net text_of text
  text_at net text_of text sound reports wire at = (wire, at, reports library scan sound at.nets wire at.are at.at)

  pub of_undriven : (net : NetId) (text : List ℕ) → IsTextOfNet raw net.0 net_text text
      → IsCause raw library scan (fault.Undriven net) → ReportsPlace raw library scan (fault.Undriven net) text
  of_undriven net text reports cause =
      let sound = sound_before 2 (net.0 ∷ []) (fault.Undriven net) cause cause.breaks.0 (omega arith) in
      text_at net.0 net_text text sound reports cause.breaks.1.wire cause.breaks.1.is_net

  pub of_double : (net : NetId) (first second : Driver) (text : List ℕ)
      → IsTextOfNet raw net.0 (λ name. double_text raw.instances name first second) text
      → IsCause raw library scan (fault.DoubleDriven net first second)
      → ReportsPlace raw library scan (fault.DoubleDriven net first second) text
  of_double net first second text reports cause =
      let sound = sound_before 2 (net.0 ∷ []) (fault.DoubleDriven net first second) cause cause.breaks.0 (omega arith) in
      text_at net.0 (λ name. double_text raw.instances name first second) text sound reports cause.breaks.1.wire cause.breaks.1.is_net

  pub of_observed : (net : NetId) (text : List ℕ) → IsTextOfNet raw net.0 net_text text
      → IsCause raw library scan (fault.ControlObserved net) → ReportsPlace raw library scan (fault.ControlObserved net) text
  of_observed net text reports cause =
      let sound = sound_before _ _ (fault.ControlObserved net) cause cause.breaks.0 (omega arith) in
      text_at net.0 net_text text sound reports cause.breaks.1.wire cause.breaks.1.is_net

module _ (raw : RawNetlist) (broken : ChipFault) (net : NetId) (text : List ℕ) where
  pub reported_double : (first second : Driver) → broken ≡ fault.DoubleDriven net first second
      → IsTextOfNet raw net.0 (λ name. double_text raw.instances name first second) text → (library : List Named)
      (scan : List ScanRow) → IsCause raw library scan broken → ReportsPlace raw library scan broken text
  reported_double first second is reports library scan =
      subst (λ b. IsCause raw library scan b → ReportsPlace raw library scan b text) (sym is)
      (of_double raw library scan net first second text reports)

  pub reported_net : (broken ≡ fault.Undriven net) ⊎ (broken ≡ fault.ControlObserved net) → IsTextOfNet raw net.0 net_text text
      → (library : List Named) (scan : List ScanRow) → IsCause raw library scan broken → ReportsPlace raw library scan broken text
  reported_net (inl is) reports library scan =
      subst (λ b. IsCause raw library scan b → ReportsPlace raw library scan b text) (sym is) (of_undriven raw library scan net text reports)
  reported_net (inr is) reports library scan =
      subst (λ b. IsCause raw library scan b → ReportsPlace raw library scan b text) (sym is) (of_observed raw library scan net text reports)

-- the text of a net, from the wire that was found for it
module _ (raw : RawNetlist) (net : ℕ) (text_of : List ℕ → List ℕ) (text : List ℕ) where
  pub named_net : (wire : ℕ) → IsFoundFor raw net (Some wire) → text ≡ text_of (wire_name raw.buses wire)
      → IsTextOfNet raw net text_of text
  named_net wire (within, known) is = λ library scan sound nets other all at.
      let same : wire ≡ other = same_Some wire other (sym (known library scan sound nets all) ∙ at) in
      subst (λ w. text ≡ wire_text raw.buses w text_of) same (rw (lt-ltb wire (bit_count raw.buses + 2) within) is)

  pub unnamed_net : IsFoundFor raw net None → text ≡ [] → IsTextOfNet raw net text_of text
  unnamed_net unnamed is = λ library scan sound nets wire all at.
      rw (le-ltb wire (bit_count raw.buses + 2) (unnamed library scan sound nets wire all at)) is

-- what holds of an answer follows from what is known of it
pub ok_then : {T E : Type 0} (r : Result T E) (P Q : T → Type 0) → ((x : T) → P x → Q x) → IfOk r P → IfOk r Q
ok_then (Ok x) P Q next held = next x held
ok_then (Err e) P Q next held = tt
