-- A replayed run is a pair run.
use Rattle.std.proofs.Common.{◌≡◌, ℕ, zero, suc, ◌<◌, Bool, true, false, List, [], ◌∷◌, ◌++◌, length, map}
use Rattle.std.proofs.Common.{inl, inr, refl, sym, ◌∙◌, ap, subst, get_or-set_other, length-set}
use Rattle.std.specs.Prelude.{if◌then◌else◌, slice_set}
use Rattle.std.specs.List.{All, AllByRecursion, Contains}
use Rattle.std.proofs.lemmas.List.Elements.{All-head, All-tail, All-weaker}
use Rattle.ca_net.specs.declared.trit.Trit.{Trit}
use Rattle.ca_net.specs.declared.trit.Trit.TheVariants.{X}
use Rattle.ca_net.specs.declared.node.NodeId.{NodeId}
use Rattle.ca_net.specs.Circuit.{Circuit, IsInput}
use Rattle.ca_net.specs.State.{IsState, value_at}
use Rattle.ca_net.specs.Event.{Event, Settle, Blur, Set, Step, Run}
use Rattle.ca_net.specs.PairRun.{HasRounds, MayCome}
use Rattle.ca_net.proofs.StateLemmas.{IsBelow-stable, response_of_input, input_responds}
use Rattle.ca_net.proofs.ReachingRun.{Trit-stable}
use Rattle.ca_order.specs.declared.event.Event as order
use Rattle.ca_order.specs.Allowed.{numbers, meaning, IsAllowed}
use Rattle.ca_replay.specs.Replay.{all_nodes, rounds, long_phase, is_same, settings}
use Rattle.ca_replay.specs.Laws.{ReplayIsPairRun}
use Rattle.ca_replay.specs.code.Kept.{IsWithin}
use Rattle.ca_replay.proofs.ValueLemmas.{with_listed}
use Rattle.ca_replay.proofs.RoundLemmas.{among}
use Rattle.ca_replay.proofs.SettingLemmas.{other_values, settings_end}

-- runs one after another
run_append : (net : Circuit) (first second : List Event) (s mid t : List Trit) → Run net s first mid → Run net mid second t
    → Run net s (first ++ second) t
run_append net [] second s mid t one other = subst (λ x. Run net x second t) one other
run_append net (event ∷ events) second s mid t one other =
    (one.0, (one.1.0, one.1.1, run_append net events second one.1.0 mid t one.1.2 other))

may_append : (v1 v2 : List Trit) (first second : List Event) → AllByRecursion (MayCome v1 v2) first
    → AllByRecursion (MayCome v1 v2) second → AllByRecursion (MayCome v1 v2) (first ++ second)
may_append v1 v2 [] second one other = other
may_append v1 v2 (event ∷ events) second one other = (one.0, may_append v1 v2 events second one.1 other)

-- the events of an order file that are allowed may come
pub events_may_come : (net : Circuit) (v1 v2 : List Trit) (events : List order.Event) → All (IsAllowed net v1 v2) events
    → AllByRecursion (MayCome v1 v2) (map meaning events)
events_may_come net v1 v2 [] all = tt
events_may_come net v1 v2 (event ∷ events) all = (
  (All-head (IsAllowed net v1 v2) event events all).may_come,
  events_may_come net v1 v2 events (All-tail (IsAllowed net v1 v2) event events all),
)

module _ (net : Circuit) where
  -- a run keeps the number of values
  step_state : (s t : List Trit) (event : Event) → IsState net s → Step net s event t → IsState net t
  step_state s t (Settle nodes) is step = step.0
  step_state s t (Blur nodes) is step = step.0
  step_state s t (Set input value) is step = ap length step ∙ (length-set s input value ∙ is)

  run_state : (events : List Event) (s t : List Trit) → IsState net s → Run net s events t → IsState net t
  run_state [] s t is run = ap length run ∙ is
  run_state (event ∷ events) s t is run = run_state events run.1.0 t (step_state s run.1.0 event is run.1.1) run.1.2

  -- rounds are rounds
  rounds_long : (count : ℕ) → HasRounds net count (rounds net count)
  unfolding rounds
  rounds_long zero = tt
  rounds_long (suc count) = (
    Settle (all_nodes net) ∷ [],
    rounds net count,
    refl,
    record { quiet = (tt, tt); each = λ n lt. inl (among (length net.nodes) n lt) },
    rounds_long count,
  )

  module _ (v1 v2 : List Trit) where
    rounds_may_come : (count : ℕ) → AllByRecursion (MayCome v1 v2) (rounds net count)
    unfolding rounds
    rounds_may_come zero = tt
    rounds_may_come (suc count) = (tt, rounds_may_come count)

    -- each input that has one known value in both vectors is at it
    Keeps : List Trit → Type 0
    Keeps s = (n : ℕ) → IsInput net n → value_at v1 n ≡ value_at v2 n → (value_at v1 n ≡ X → ⊥) → value_at s n ≡ value_at v2 n

    keeps_step : (s t : List Trit) (event : Event) → Keeps s → MayCome v1 v2 event → Step net s event t → Keeps t
    unfolding Keeps
    keeps_step s t (Settle nodes) keeps may step n input same known = Trit-stable _ _ (λ no.
        let out : Contains nodes n → ⊥ = λ has.
        no (response_of_input net s n (value_at t n) input.1 (step.1 n has) ∙ keeps n input same known) in
        no (step.2 n out ∙ keeps n input same known))
    keeps_step s t (Blur nodes) keeps may step n input same known =
        step.2 n (λ has unstable. unstable (input_responds net s n input.1)) ∙ keeps n input same known
    keeps_step s t (Set changed value) keeps may step n input same known =
        ap (λ x. value_at x n) step
        ∙ (get_or-set_other s changed n value X
        (λ e. known (subst (λ k. value_at v1 k ≡ X) (sym e) (may (subst (λ k. value_at v1 k ≡ value_at v2 k) e same))))
        ∙ keeps n input same known)

    keeps_run : (events : List Event) (s t : List Trit) → Keeps s → AllByRecursion (MayCome v1 v2) events → Run net s events t → Keeps t
    keeps_run [] s t keeps may run = subst Keeps (sym run) keeps
    keeps_run (event ∷ events) s t keeps may run =
        keeps_run events run.1.0 t (keeps_step s run.1.0 event keeps may.0 run.1.1) may.1 run.1.2

    -- the settings set no input that has one known value in both vectors
    settings_may_come : (inputs : List NodeId) (s : List Trit) → All (λ input. IsInput net input.0) inputs → Keeps s
        → AllByRecursion (MayCome v1 v2) (settings v2 inputs s)
    unfolding settings Keeps
    settings_may_come [] s all keeps = tt
    settings_may_come (input ∷ inputs) s all keeps =
        let rest = All-tail (λ (given : NodeId). IsInput net given.0) input inputs all in
        by (is_same (value_at s input.0) (value_at v2 input.0)) (other_values (value_at s input.0) (value_at v2 input.0))
        (All-head (λ (given : NodeId). IsInput net given.0) input inputs all) (settings_may_come inputs s rest keeps)
        (λ may. settings_may_come inputs (slice_set s input.0 (value_at v2 input.0)) rest
        (keeps_step s (slice_set s input.0 (value_at v2 input.0)) (Set input.0 (value_at v2 input.0)) keeps may refl))
      where
        by : (test : Bool) → (test ≡ false → value_at s input.0 ≡ value_at v2 input.0 → ⊥) → IsInput net input.0
            → AllByRecursion (MayCome v1 v2) (settings v2 inputs s)
            → ((value_at v1 input.0 ≡ value_at v2 input.0 → value_at v1 input.0 ≡ X)
            → AllByRecursion (MayCome v1 v2) (settings v2 inputs (slice_set s input.0 (value_at v2 input.0))))
            → AllByRecursion (MayCome v1 v2) (if test then settings v2 inputs s
            else Set input.0 (value_at v2 input.0) ∷ settings v2 inputs (slice_set s input.0 (value_at v2 input.0)))
        by true differs is stays sets = stays
        by false differs is stays sets =
            let may : value_at v1 input.0 ≡ value_at v2 input.0 → value_at v1 input.0 ≡ X =
            λ same. Trit-stable _ _ (λ known. differs refl (keeps input.0 is same known)) in
            (may, sets may)

pub replay_is_pair_run_lem : ReplayIsPairRun
unfolding Keeps
replay_is_pair_run_lem net inputs v1 v2 events end cover may replay =
    let begun : Keeps net v1 v2 replay.start = λ n input same known. replay.begins.inputs n input ∙ same in
    let settled = keeps_run net v1 v2 (long_phase net) replay.start replay.settled begun (rounds_may_come net v1 v2 (length net.nodes)) replay.first_run in
    let changed = keeps_run net v1 v2 events replay.settled replay.changed settled may replay.change_run in
    let settings_may = settings_may_come net v1 v2 inputs replay.changed cover.are_inputs changed in
    let set = keeps_run net v1 v2 (settings v2 inputs replay.changed) replay.changed replay.set changed settings_may replay.set_run in
    let is_state = run_state net events replay.settled replay.changed
    (run_state net (long_phase net) replay.start replay.settled replay.begins.is_state replay.first_run) replay.change_run in
    let within : All (IsWithin (length replay.changed)) inputs =
    All-weaker (λ (input : NodeId). IsInput net input.0) (IsWithin (length replay.changed))
    (λ input is. subst (λ count. input.0 < count) (sym is_state) is.0) inputs cover.are_inputs in
    record {
      start = replay.start;
      settled = replay.settled;
      changed = replay.set;
      first_phase = long_phase net;
      change = events ++ settings v2 inputs replay.changed;
      last_phase = long_phase net;
      start_is_state = replay.begins.is_state;
      start_inputs = λ n input. inr (sym (replay.begins.inputs n input));
      first_is_long = rounds_long net (length net.nodes);
      first_run = replay.first_run;
      change_may_come = may_append v1 v2 events (settings v2 inputs replay.changed) may settings_may;
      change_run = run_append net events (settings v2 inputs replay.changed) replay.settled replay.changed replay.set replay.change_run replay.set_run;
      changed_inputs = λ n input. IsBelow-stable _ _ (λ no.
          let outside : Contains (numbers inputs) n → ⊥ = λ has.
          no (inr (sym (ap (λ s. value_at s n) (settings_end net v2 inputs replay.changed replay.set replay.set_run)
          ∙ with_listed v2 inputs replay.changed within n has))) in
          let same = cover.others n input outside in
          no (inr (sym (set n input same (λ unknown. no (inl (sym same ∙ unknown)))))));
      last_is_long = rounds_long net (length net.nodes);
      last_run = replay.last_run;
    }
