-- Vectors that have one value at each place name the same runs and allow the same events.
use Rattle.std.proofs.Common.{◌≡◌, ℕ, List, [], ◌∷◌, refl, sym, ◌∙◌, ap, subst}
use Rattle.std.specs.Prelude.{if◌then◌else◌, slice_set, Ok, Err, Result, IfOk}
use Rattle.std.specs.List.{All, AllByRecursion}
use Rattle.std.proofs.lemmas.List.Elements.{All-weaker}
use Rattle.ca_net.specs.declared.trit.Trit.{Trit}
use Rattle.ca_net.specs.declared.node.NodeId.{NodeId}
use Rattle.ca_net.specs.Trit.{IsBelow}
use Rattle.ca_net.specs.Circuit.{Circuit}
use Rattle.ca_net.specs.State.{value_at}
use Rattle.ca_net.specs.Event.{Event, Settle, Blur, Set, Run}
use Rattle.ca_net.specs.PairRun.{MayCome, PairRun}
use Rattle.ca_order.specs.declared.event.Event as order
use Rattle.ca_order.specs.declared.event.OrderFault.{OrderFault}
use Rattle.ca_order.specs.Allowed.{meaning, MaySet, IsAllowed, ReadsFor}
use Rattle.ca_replay.specs.Replay.{IsReplay, is_same, settings}
use Rattle.ca_chip_replay.specs.code.Kept.{HaveOneValue}

pub same_back : (v w : List Trit) → HaveOneValue v w → HaveOneValue w v
same_back v w same n = sym (same n)

-- the same settings
settings_same : (v w : List Trit) → HaveOneValue v w → (inputs : List NodeId) (s : List Trit) → settings v inputs s ≡ settings w inputs s
unfolding settings
settings_same v w same [] s = refl
settings_same v w same (input ∷ inputs) s =
    let e : value_at v input.0 ≡ value_at w input.0 = same input.0 in
    ap (λ x. if is_same (value_at s input.0) x then settings v inputs s else Set input.0 x ∷ settings v inputs (slice_set s input.0 x)) e
    ∙ ap (λ (l : List Event). if is_same (value_at s input.0) (value_at w input.0) then l
    else Set input.0 (value_at w input.0) ∷ settings v inputs (slice_set s input.0 (value_at w input.0))) (settings_same v w same inputs s)
    ∙ ap (λ (l : List Event). if is_same (value_at s input.0) (value_at w input.0) then settings w inputs s else Set input.0 (value_at w input.0) ∷ l)
    (settings_same v w same inputs (slice_set s input.0 (value_at w input.0)))

-- the same runs
pub replay_same : (net : Circuit) (inputs : List NodeId) (v1 v2 w1 w2 : List Trit) (events : List Event) (end : List Trit)
    → HaveOneValue v1 w1 → HaveOneValue v2 w2 → IsReplay net inputs v1 v2 events end → IsReplay net inputs w1 w2 events end
replay_same net inputs v1 v2 w1 w2 events end first last is = record {
  start = is.start;
  settled = is.settled;
  changed = is.changed;
  set = is.set;
  begins = record {
    is_state = is.begins.is_state;
    inputs = λ n input. is.begins.inputs n input ∙ first n;
    unknown = is.begins.unknown;
  };
  first_run = is.first_run;
  change_run = is.change_run;
  set_run = subst (λ es. Run net is.changed es is.set) (settings_same v2 w2 last inputs is.changed) is.set_run;
  last_run = is.last_run;
}

-- the same events may come
event_may_come : (v1 v2 w1 w2 : List Trit) → HaveOneValue v1 w1 → HaveOneValue v2 w2 → (event : Event) → MayCome v1 v2 event → MayCome w1 w2 event
event_may_come v1 v2 w1 w2 first last (Settle nodes) may = tt
event_may_come v1 v2 w1 w2 first last (Blur nodes) may = tt
event_may_come v1 v2 w1 w2 first last (Set input value) may = λ e. sym (first input) ∙ may (first input ∙ e ∙ sym (last input))

events_may_come : (v1 v2 w1 w2 : List Trit) → HaveOneValue v1 w1 → HaveOneValue v2 w2 → (events : List Event)
    → AllByRecursion (MayCome v1 v2) events → AllByRecursion (MayCome w1 w2) events
events_may_come v1 v2 w1 w2 first last [] may = tt
events_may_come v1 v2 w1 w2 first last (event ∷ events) may =
    (event_may_come v1 v2 w1 w2 first last event may.0, events_may_come v1 v2 w1 w2 first last events may.1)

pub pair_run_same : (net : Circuit) (v1 v2 w1 w2 end : List Trit) → HaveOneValue v1 w1 → HaveOneValue v2 w2 → PairRun net v1 v2 end → PairRun net w1 w2 end
pair_run_same net v1 v2 w1 w2 end first last run = record {
  start = run.start;
  settled = run.settled;
  changed = run.changed;
  first_phase = run.first_phase;
  change = run.change;
  last_phase = run.last_phase;
  start_is_state = run.start_is_state;
  start_inputs = λ n input. subst (λ x. IsBelow x (value_at run.start n)) (first n) (run.start_inputs n input);
  first_is_long = run.first_is_long;
  first_run = run.first_run;
  change_may_come = events_may_come v1 v2 w1 w2 first last run.change run.change_may_come;
  change_run = run.change_run;
  changed_inputs = λ n input. subst (λ x. IsBelow x (value_at run.changed n)) (last n) (run.changed_inputs n input);
  last_is_long = run.last_is_long;
  last_run = run.last_run;
}

-- the same events are allowed
pub allowed_same : (net : Circuit) (v1 v2 w1 w2 : List Trit) → HaveOneValue v1 w1 → HaveOneValue v2 w2 → (events : List order.Event)
    → All (IsAllowed net v1 v2) events → All (IsAllowed net w1 w2) events
allowed_same net v1 v2 w1 w2 first last events all = All-weaker (IsAllowed net v1 v2) (IsAllowed net w1 w2)
    (λ event is. record { is_event = is.is_event; may_come = event_may_come v1 v2 w1 w2 first last (meaning event) is.may_come }) events all

-- the same nodes may be set
may_set : (net : Circuit) (v1 v2 w1 w2 : List Trit) → HaveOneValue v1 w1 → HaveOneValue v2 w2 → (n : ℕ) → MaySet net v1 v2 n → MaySet net w1 w2 n
may_set net v1 v2 w1 w2 first last n may = (may.0, λ e. sym (first n) ∙ may.1 (first n ∙ e ∙ sym (last n)))

-- the same order files are read
pub reads_same : (net : Circuit) (v1 v2 w1 w2 : List Trit) (text : List ℕ) (answer : Result (List order.Event) OrderFault)
    → HaveOneValue v1 w1 → HaveOneValue v2 w2 → ReadsFor net v1 v2 text answer → ReadsFor net w1 w2 text answer
reads_same net v1 v2 w1 w2 text answer first last reads = record {
  places = reads.places;
  are_places = record {
    each = reads.are_places.each;
    free = λ n. (
      λ is. may_set net v1 v2 w1 w2 first last n ((reads.are_places.free n).0 is),
      λ may. (reads.are_places.free n).1 (may_set net w1 w2 v1 v2 (same_back v1 w1 first) (same_back v2 w2 last) n may),
    );
  };
  reads = reads.reads;
}

-- so are those of what is read
pub answer_allowed : (net : Circuit) (v1 v2 w1 w2 : List Trit) (answer : Result (List order.Event) OrderFault) → HaveOneValue v1 w1 → HaveOneValue v2 w2
    → IfOk answer (All (IsAllowed net v1 v2)) → IfOk answer (All (IsAllowed net w1 w2))
answer_allowed net v1 v2 w1 w2 (Ok events) first last all = allowed_same net v1 v2 w1 w2 first last events all
answer_allowed net v1 v2 w1 w2 (Err fault) first last all = tt
