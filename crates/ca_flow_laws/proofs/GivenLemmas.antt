-- The own words of a command are of a chip, or, up to a double negation, something is reported of them.
use Rattle.std.proofs.Common.{ℕ, zero, suc, ◌≡◌, ◌≢◌, ◌<◌, ◌∙◌, inl, inr, refl, sym, subst, arith, List, [], ◌∷◌, ◌++◌, length}
use Rattle.std.proofs.Common.{Option, Some, None, Result, Ok, Err, length-append, Bool, true, false, true≢false}
use Rattle.std.specs.Prelude.{IsSome, slice_get}
use Rattle.std.specs.Prelude.{◌↔◌}
use Rattle.std.specs.Str.{bytes_eq}
use Rattle.std.proofs.lemmas.Slice.Eq.{bytes_eq-Decides}
use Rattle.std.proofs.Math.Decide.{dec_lt}
use Rattle.std.proofs.lemmas.Option.{slice_get_within}
use Rattle.ca_net.specs.declared.trit.Trit.{Trit}
use Rattle.ca_net.specs.Circuit.{Circuit}
use Rattle.ca_cell.specs.declared.defect.Defect.{Defect}
use Rattle.ca_flat.specs.declared.chip_defect.ChipDefect.{ChipDefect}
use Rattle.ca_flat.specs.Chip.{cell_at}
use Rattle.ca_flat.specs.Flat.{flat}
use Rattle.ca_flat.specs.Pair.{first_vector, last_vector}
use Rattle.ca_linked.specs.Linked.{LinkedChip, inputs_of}
use Rattle.ca_linked.specs.Instances.{IsNamedGate}
use Rattle.ca_view.specs.Core.{core_of}
use Rattle.ca_request.specs.Vectors.{dash, letters_of}
use Rattle.ca_request.specs.Asked.{defect_called, AreBothOrNeither, IsAskedDefect, IsDefectCause}
use Rattle.ca_order.specs.declared.event.Event.{Event}
use Rattle.ca_order.specs.declared.event.Place.{Place}
use Rattle.ca_order.specs.declared.event.Place.TheVariants.{Free, Fixed}
use Rattle.ca_order.specs.Order.{order_of}
use Rattle.ca_order.specs.Allowed.{MaySet, ArePlaces}
use Rattle.ca_chip_replay.specs.ChipRun.{RunOf}
use Rattle.ca_simulate.specs.OneRun.{ReadsRun, IsFaultyLine}
use Rattle.ca_fault.specs.declared.fault.Fault.{Fault}
use Rattle.ca_fault.specs.declared.fault.Fault.TheVariants.{BadVector, NoInstance, NoDefect}
use Rattle.ca_words.specs.Words.{instance_word, chip_defect_word, chip_first_word, chip_last_word}
use Rattle.ca_on_chip.specs.OnChip.{IsSimulationCause}
use Rattle.ca_on_chip.specs.Replay.{run_of, HasRun}
use Rattle.ca_flow.specs.Complete.{FitsDefect, FitsSimulate}
use Rattle.ca_flow_laws.proofs.FirstLemmas.{either}
use Rattle.ca_flow_laws.proofs.OneLemmas.{NamesOne}
use Rattle.ca_flow_laws.proofs.SomeLemmas.{same_or_other}

-- an instance and a defect, where words of which this is reported are refuted
pub defect_or : (words : List (List ℕ)) (chip : LinkedChip) → NamesOne chip
    → ((fault : Fault) → IsDefectCause chip (instance_word words) (chip_defect_word words) fault → ⊥)
    → (FitsDefect words chip → ⊥) → ⊥
defect_or words chip one none refutes = either (instance_word words ≡ dash) (λ found. elim found [
  | inl same ↦ refutes (inl same)
  | inr some ↦ either ((u : ℕ) × IsNamedGate chip (instance_word words) u) (λ there. elim there [
    | inr lacks ↦ none (NoInstance (instance_word words)) (refl, (some, λ u named. lacks (u, named)))
    | inl gate ↦ by gate.0 gate.1 some (defect_called (cell_at (core_of chip) gate.0) (chip_defect_word words)) refl
  ])
])
  where
    by : (u : ℕ) → IsNamedGate chip (instance_word words) u → instance_word words ≢ dash → (found : Option Defect)
        → defect_called (cell_at (core_of chip) u) (chip_defect_word words) ≡ found → ⊥
    by u named some None is =
        none (NoDefect (chip_defect_word words)) (refl, (some, record { u = u; named = named; lacks = rw is refl }))
    by u named some (Some defect) is = refutes (inr (record {
      u = u;
      named = named;
      called = λ v named_too.
          let same : u ≡ v = one (instance_word words) u v named named_too in
          let called : defect_called (cell_at (core_of chip) v) (chip_defect_word words) ≡ Some defect =
          subst (λ n. defect_called (cell_at (core_of chip) n) (chip_defect_word words) ≡ Some defect) same is in
          rw called refl;
    }))

-- two vectors, an instance and a defect
pub simulate_or : (words : List (List ℕ)) (chip : LinkedChip) → NamesOne chip
    → ((fault : Fault)
    → IsSimulationCause (instance_word words) (chip_defect_word words) (chip_first_word words) (chip_last_word words) fault chip → ⊥)
    → (FitsSimulate words chip → ⊥) → ⊥
simulate_or words chip one none refutes = elim (same_or_other (length (letters_of (chip_first_word words))) (length (inputs_of chip))) [
  | inr unfit ↦ none (BadVector (chip_first_word words)) (inl (inl (refl, unfit)))
  | inl first ↦ elim (same_or_other (length (letters_of (chip_last_word words))) (length (inputs_of chip))) [
    | inr unfit ↦ none (BadVector (chip_last_word words)) (inl (inr (refl, (first, unfit))))
    | inl last ↦ defect_or words chip one (λ fault cause. none fault (inr (first, (last, cause))))
        (λ fits. refutes (record { first = first; last = last; defect = fits }))
  ]
]

-- words that fit name a run
module _ (words : List (List ℕ)) (chip : LinkedChip) (both : AreBothOrNeither (instance_word words) (chip_defect_word words)) where
  pub asked_given : FitsDefect words chip → (given : Option ChipDefect) × IsAskedDefect chip (instance_word words) (chip_defect_word words) given
  asked_given (inl same) = (None, (same, both.0 same))
  asked_given (inr has) = by_dash (bytes_eq (instance_word words) dash) refl
    where
      by : instance_word words ≢ dash → (found : Option Defect) → defect_called (cell_at (core_of chip) has.u) (chip_defect_word words) ≡ found
          → IsSome found → (given : Option ChipDefect) × IsAskedDefect chip (instance_word words) (chip_defect_word words) given
      by some None is reported = absurd (true≢false (sym reported))
      by some (Some defect) is reported = (Some (record { instance = has.u; defect = defect }), record { some = some; named = has.named; called = is })

      by_dash : (is_dash : Bool) → bytes_eq (instance_word words) dash ≡ is_dash
          → (given : Option ChipDefect) × IsAskedDefect chip (instance_word words) (chip_defect_word words) given
      by_dash true is = let same = (bytes_eq-Decides (instance_word words) dash).0 is in (None, (same, both.0 same))
      by_dash false is =
          by (λ same. true≢false (sym ((bytes_eq-Decides (instance_word words) dash).1 same) ∙ is))
          (defect_called (cell_at (core_of chip) has.u) (chip_defect_word words)) refl (has.called has.u has.named)

  pub has_run : FitsSimulate words chip
      → HasRun (instance_word words) (chip_defect_word words) (chip_first_word words) (chip_last_word words) chip
  has_run fits =
      let given = asked_given fits.defect in (
        run_of chip given.0 (chip_first_word words) (chip_last_word words),
        record { first_fits = fits.first; last_fits = fits.last; given = given.0; asked = given.1; run_is = refl },
      )

-- the places of a network
module _ (net : Circuit) (first last : List Trit) where
  -- of its first nodes
  record ArePlacesTo (n : ℕ) : Type 0 where
    pub places : List Place
    pub count : length places ≡ n
    pub free : (k : ℕ) → k < n → (slice_get places k ≡ Some Free) ↔ MaySet net first last k

  at_left : {A : Type 0} (xs : List A) (x : A) (k : ℕ) → k < length xs → slice_get (xs ++ x ∷ []) k ≡ slice_get xs k
  at_left [] x k less = absurd (omega (arith, less))
  at_left (y ∷ xs) x zero less = refl
  at_left (y ∷ xs) x (suc k) less = at_left xs x k (omega (arith, less))

  at_end : {A : Type 0} (xs : List A) (x : A) → slice_get (xs ++ x ∷ []) (length xs) ≡ Some x
  at_end [] x = refl
  at_end (y ∷ xs) x = at_end xs x

  with_place : (n : ℕ) (place : Place) → ((Some place ≡ Some Free) ↔ MaySet net first last n) → ArePlacesTo n → ArePlacesTo (suc n)
  with_place n place is are = record {
    places = are.places ++ place ∷ [];
    count = let grown = length-append are.places (place ∷ []) in let count = are.count in omega (arith, grown, count);
    free = λ k less. elim (dec_lt k n) [
      | yes before ↦
          let same = at_left are.places place k (let count = are.count in omega (arith, before, count)) in
          (λ reported. (are.free k before).0 (sym same ∙ reported), λ may. same ∙ (are.free k before).1 may)
      | no not ↦
          let k_is : k ≡ length are.places = let count = are.count in omega (arith, less, not, count) in
          let n_is : k ≡ n = omega (arith, less, not) in
          let same : slice_get (are.places ++ place ∷ []) k ≡ Some place =
          subst (λ j. slice_get (are.places ++ place ∷ []) j ≡ Some place) (sym k_is) (at_end are.places place) in (
            λ reported. subst (MaySet net first last) (sym n_is) (is.0 (sym same ∙ reported)),
            λ may. same ∙ is.1 (subst (MaySet net first last) n_is may),
          )
    ];
  }

  fixed : Some Fixed ≡ Some Free → ⊥
  fixed same = cc

  places_to : (n : ℕ) → (ArePlacesTo n → ⊥) → ⊥
  places_to zero refutes = refutes (record { places = []; count = refl; free = λ k less. absurd (omega (arith, less)) })
  places_to (suc n) refutes = places_to n (λ are. either (MaySet net first last n) (λ found. elim found [
    | inl may ↦ refutes (with_place n Free (λ same. may, λ may. refl) are)
    | inr never ↦ refutes (with_place n Fixed (λ same. absurd (fixed same), λ may. absurd (never may)) are)
  ]))

  places_or : ((places : List Place) → ArePlaces net first last places → ⊥) → ⊥
  places_or refutes = places_to (length net.nodes) (λ are. refutes are.places (record {
    each = are.count;
    free = λ n. (
      λ reported. (are.free n (let within = slice_get_within are.places n Free reported in let count = are.count in omega (arith, within, count))).0 reported,
      λ may. (are.free n may.0.0).1 may,
    );
  }))

-- a text names events of a run, or has a faulty line
pub events_or : (run : RunOf) (text : List ℕ) → ((events : List Event) → ReadsRun run text (Ok events) → ⊥)
    → ((line : ℕ) → IsFaultyLine run line text → ⊥) → ⊥
events_or run text named faulty =
    places_or (flat run.chip run.given) (first_vector run.chip run.pair) (last_vector run.chip run.pair)
    (λ places are. by places are (order_of places text) refl)
  where
    by : (places : List Place) → ArePlaces (flat run.chip run.given) (first_vector run.chip run.pair) (last_vector run.chip run.pair) places
        → (read : Result (List Event) ℕ) → order_of places text ≡ read → ⊥
    by places are (Ok events) is = named events (record { places = places; are_places = are; reads = is })
    by places are (Err line) is = faulty line (record { places = places; are_places = are; reads = is })
