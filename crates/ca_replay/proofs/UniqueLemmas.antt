-- A replayed run ends in one state.
use Rattle.std.proofs.Common.{◌≡◌, ◌<◌, List, [], ◌∷◌, inl, inr, refl, sym, ◌∙◌, subst}
use Rattle.std.specs.List.{Contains}
use Rattle.std.proofs.lemmas.List.{ext_get_or}
use Rattle.ca_net.specs.declared.trit.Trit.{Trit}
use Rattle.ca_net.specs.declared.trit.Trit.TheVariants.{X}
use Rattle.ca_net.specs.Circuit.{Circuit, IsWellFormed}
use Rattle.ca_net.specs.State.{value_at}
use Rattle.ca_net.specs.Event.{Event, Settle, Blur, Set, IsUnstable, Step, Run}
use Rattle.ca_net.proofs.StateLemmas.{storage_or_input}
use Rattle.ca_net.proofs.ReachingRun.{Trit-stable}
use Rattle.ca_replay.specs.Replay.{IsStart, long_phase, settings}
use Rattle.ca_replay.specs.Laws.{ReplayIsUnique}
use Rattle.ca_replay.proofs.StepLemmas.{one_response}

module _ (net : Circuit) (well_formed : IsWellFormed net) where
  one_step : (s : List Trit) (event : Event) (t u : List Trit) → Step net s event t → Step net s event u → t ≡ u
  one_step s (Settle nodes) t u one other = ext_get_or X t u (one.0 ∙ sym other.0) (λ n lt. Trit-stable _ _ (λ no.
      let out : Contains nodes n → ⊥ = λ has.
      no (one_response net well_formed s n (value_at t n) (value_at u n) (one.1 n has) (other.1 n has)) in
      no (one.2 n out ∙ sym (other.2 n out))))
  one_step s (Blur nodes) t u one other = ext_get_or X t u (one.0 ∙ sym other.0) (λ n lt. Trit-stable _ _ (λ no.
      let out : Contains nodes n → IsUnstable net s n → ⊥ = λ has unstable.
      no (one.1 n has unstable ∙ sym (other.1 n has unstable)) in
      no (one.2 n out ∙ sym (other.2 n out))))
  one_step s (Set input value) t u one other = one ∙ sym other

  one_end : (events : List Event) (r s t u : List Trit) → r ≡ s → Run net r events t → Run net s events u → t ≡ u
  one_end [] r s t u same one other = one ∙ (same ∙ sym other)
  one_end (event ∷ events) r s t u same one other =
      one_end events one.1.0 other.1.0 t u
      (one_step s event one.1.0 other.1.0 (subst (λ x. Step net x event one.1.0) same one.1.1) other.1.1) one.1.2 other.1.2

  one_start : (v s t : List Trit) → IsStart net v s → IsStart net v t → s ≡ t
  one_start v s t one other = ext_get_or X s t (one.is_state ∙ sym other.is_state) (λ n lt. elim (storage_or_input net n) [
    | inl storage ↦ one.unknown n storage ∙ sym (other.unknown n storage)
    | inr input ↦
        let within = subst (λ count. n < count) one.is_state lt in
        one.inputs n (within, input) ∙ sym (other.inputs n (within, input))
  ])

pub replay_is_unique_lem : ReplayIsUnique
replay_is_unique_lem net inputs v1 v2 events s t well_formed one other =
    let start = one_start net well_formed v1 one.start other.start one.begins other.begins in
    let settled = one_end net well_formed (long_phase net) one.start other.start one.settled other.settled start one.first_run other.first_run in
    let changed = one_end net well_formed events one.settled other.settled one.changed other.changed settled one.change_run other.change_run in
    let given = subst (λ x. Run net x (settings v2 inputs x) one.set) changed one.set_run in
    let set = one_end net well_formed (settings v2 inputs other.changed) other.changed other.changed one.set other.set refl given other.set_run in
    one_end net well_formed (long_phase net) one.set other.set s t set one.last_run other.last_run
