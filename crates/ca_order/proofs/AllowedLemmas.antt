-- The events of an order file may come.
use Rattle.std.proofs.Common.{◌≡◌, ℕ, ◌<◌, Bool, true, false, List, [], ◌∷◌, ◌++◌, length, refl, sym, subst}
use Rattle.std.proofs.Common.{codes, Option, Some, None, Result, Ok, Err, IfOk}
use Rattle.std.specs.Prelude.{if◌then◌else◌, nat_lt, nat_le, slice_get, IsErrAnd}
use Rattle.std.specs.List.{All}
use Rattle.std.specs.Str.{bytes_eq}
use Rattle.std.proofs.lemmas.Bool.{ltb-true}
use Rattle.std.proofs.lemmas.List.Elements.{All-nil, All-cons, All-map, All-contains, All-push, All-same}
use Rattle.ca_lex.specs.FirstFault.{steps_from}
use Rattle.ca_lex.specs.Length.{number_of}
use Rattle.ca_net.specs.declared.trit.Trit.{Trit}
use Rattle.ca_net.specs.declared.node.NodeId.{NodeId}
use Rattle.ca_net.specs.Circuit.{Circuit}
use Rattle.ca_net.specs.Event as model
use Rattle.ca_order.specs.declared.event.Event.{Event}
use Rattle.ca_order.specs.declared.event.Event.TheVariants as event
use Rattle.ca_order.specs.declared.event.Place.{Place}
use Rattle.ca_order.specs.declared.event.Place.TheVariants as place
use Rattle.ca_lex.specs.Physical.{lines_of}
use Rattle.ca_order.specs.Lines.{words_of, is_number, below, node_of, with_node, nodes_of}
use Rattle.ca_order.specs.Lines.{some_nodes, value_of}
use Rattle.ca_order.specs.Order.{set_of, set_with, settled, blurred, event_of, event_at, Numbered, numbered}
use Rattle.ca_order.specs.Order.{line_step, order_of, most_lines}
use Rattle.ca_order.specs.Allowed.{numbers, ArePlaces, IsAllowed, ReadsFor}
use Rattle.ca_order.specs.declared.event.OrderFault.{OrderFault}
use Rattle.ca_order.specs.declared.event.OrderFault.TheVariants as fault
use Rattle.ca_order.specs.OrderFault.{Reads}
use Rattle.ca_order.proofs.PlaceLemmas.{some_places}
use Rattle.ca_order.specs.Laws.{ReadEventsAreAllowed}

-- the node is among the first `count`
abbrev IsWithin : ℕ → NodeId → Type 0
IsWithin count node = node.0 < count

below_within : (number count : ℕ) (node : NodeId) → below number count ≡ Some node → node.0 < count
below_within number count node is = by (nat_lt number count) (ltb-true number count) is
  where
    by : (test : Bool) → (test ≡ true → number < count) → (if test then Some (record { 0 = number }) else None) ≡ Some node → node.0 < count
    by true lt is =
        let same : ◌≡◌ {A = NodeId} (record { 0 = number }) node = cc in
        subst (λ (x : NodeId). x.0 < count) same (lt refl)
    by false lt is = cc

node_within : (places : List Place) (word : List ℕ) (node : NodeId) → node_of places word ≡ Some node → node.0 < length places
node_within places word node is = by (is_number word) is
  where
    by : (test : Bool) → (if test then below (number_of word) (length places) else None) ≡ Some node → node.0 < length places
    by true is = below_within (number_of word) (length places) node is
    by false is = cc

nodes_within : (places : List Place) (words : List (List ℕ)) (nodes : List NodeId) → nodes_of places words ≡ Some nodes
    → All (IsWithin (length places)) nodes
unfolding nodes_of
nodes_within places [] nodes is =
    let none : ◌≡◌ {A = List NodeId} nodes [] = cc in
    All-same (IsWithin (length places)) nodes [] none (All-nil (IsWithin (length places)))
nodes_within places (word ∷ words) nodes is =
    by (nodes_within places words) (node_of places word) refl (nodes_of places words) refl is
  where
    by : ((more : List NodeId) → nodes_of places words ≡ Some more → All (IsWithin (length places)) more)
        → (first : Option NodeId) → node_of places word ≡ first → (others : Option (List NodeId)) → nodes_of places words ≡ others
        → with_node first others ≡ Some nodes → All (IsWithin (length places)) nodes
    by later None reported others rest is = cc
    by later (Some node) reported None rest is = cc
    by later (Some node) reported (Some more) rest is =
        let same : ◌≡◌ {A = List NodeId} nodes (node ∷ more) = cc in
        All-same (IsWithin (length places)) nodes (node ∷ more) same
        (All-cons (IsWithin (length places)) node more (node_within places word node reported) (later more rest))

some_within : (places : List Place) (words : List (List ℕ)) (nodes : List NodeId) → some_nodes places words ≡ Some nodes
    → All (IsWithin (length places)) nodes
some_within places [] nodes is = cc
some_within places (word ∷ words) nodes is = nodes_within places (word ∷ words) nodes is

module _ (net : Circuit) (v1 v2 : List Trit) (places : List Place) (are : ArePlaces net v1 v2 places) where
  all_nodes : (nodes : List NodeId) → All (IsWithin (length places)) nodes → model.AllNodes net (numbers nodes)
  all_nodes nodes within n has =
      let lt : n < length places = All-contains (λ m. m < length places) (numbers nodes) n
      (All-map (λ m. m < length places) (λ (node : NodeId). node.0) nodes within) has in
      subst (λ count. n < count) are.each lt

  set_allowed : (node : Option NodeId) (value : Option Trit) (made : Event) → set_of places node value ≡ Some made → IsAllowed net v1 v2 made
  set_allowed None value made is = cc
  set_allowed (Some node) None made is = cc
  set_allowed (Some node) (Some value) made is = by (slice_get places node.0) refl is
    where
      by : (here : Option Place) → slice_get places node.0 ≡ here
          → elim here as (λ _. Option Event) [
            | None ↦ None
            | Some kind ↦ elim kind as (λ _. Option Event) [ place.Free ↦ Some (event.Set node value) | place.Fixed ↦ None ]
          ] ≡ Some made → IsAllowed net v1 v2 made
      by None reported is = cc
      by (Some place.Fixed) reported is = cc
      by (Some place.Free) reported is =
          let may = (are.free node.0).0 reported in
          let same : ◌≡◌ {A = Event} (event.Set node value) made = cc in
          subst (IsAllowed net v1 v2) same (record { is_event = may.0; may_come = may.1 })

  set_with_allowed : (words : List (List ℕ)) (made : Event) → set_with places words ≡ Some made → IsAllowed net v1 v2 made
  unfolding set_with
  set_with_allowed [] made is = cc
  set_with_allowed (node ∷ []) made is = cc
  set_with_allowed (node ∷ value ∷ []) made is = set_allowed (node_of places node) (value_of value) made is
  set_with_allowed (node ∷ value ∷ more ∷ words) made is = cc

  settled_allowed : (nodes : Option (List NodeId)) (made : Event)
      → ((given : List NodeId) → nodes ≡ Some given → All (IsWithin (length places)) given)
      → settled nodes ≡ Some made → IsAllowed net v1 v2 made
  settled_allowed None made within is = cc
  settled_allowed (Some nodes) made within is =
      let same : ◌≡◌ {A = Event} (event.Settle nodes) made = cc in
      subst (IsAllowed net v1 v2) same (record { is_event = all_nodes nodes (within nodes refl); may_come = tt })

  blurred_allowed : (nodes : Option (List NodeId)) (made : Event)
      → ((given : List NodeId) → nodes ≡ Some given → All (IsWithin (length places)) given)
      → blurred nodes ≡ Some made → IsAllowed net v1 v2 made
  blurred_allowed None made within is = cc
  blurred_allowed (Some nodes) made within is =
      let same : ◌≡◌ {A = Event} (event.Blur nodes) made = cc in
      subst (IsAllowed net v1 v2) same (record { is_event = all_nodes nodes (within nodes refl); may_come = tt })

  event_allowed : (words : List (List ℕ)) (made : Event) → event_of places words ≡ Some made → IsAllowed net v1 v2 made
  unfolding event_of
  event_allowed [] made is = cc
  event_allowed (word ∷ words) made is =
      by (bytes_eq word (codes "settle")) (bytes_eq word (codes "blur")) (bytes_eq word (codes "set")) is
    where
      by : (one two three : Bool)
          → (if one then settled (some_nodes places words) else (if two then blurred (some_nodes places words)
          else (if three then set_with places words else None))) ≡ Some made → IsAllowed net v1 v2 made
      by true two three is = settled_allowed (some_nodes places words) made (some_within places words) is
      by false true three is = blurred_allowed (some_nodes places words) made (some_within places words) is
      by false false true is = set_with_allowed words made is
      by false false false is = cc

  line_allowed : (line : ℕ) (text : List ℕ) (made : Event) → event_at places line text ≡ Some made → IsAllowed net v1 v2 made
  unfolding event_at
  line_allowed line text made is = by (nat_le line most_lines) is
    where
      by : (test : Bool) → (if test then event_of places (words_of text) else None) ≡ Some made → IsAllowed net v1 v2 made
      by true is = event_allowed (words_of text) made is
      by false is = cc

  lines_allowed : (lines : List Numbered) (so_far events : List Event) → All (IsAllowed net v1 v2) so_far
      → steps_from (line_step places) so_far lines ≡ Ok events → All (IsAllowed net v1 v2) events
  unfolding steps_from
  lines_allowed [] so_far events all is =
      let same : ◌≡◌ {A = List Event} events so_far = cc in All-same (IsAllowed net v1 v2) events so_far same all
  lines_allowed (here ∷ lines) so_far events all is =
      by (λ so_far. lines_allowed lines so_far events) (event_at places here.line here.text) refl is
    where
      by : ((so_far : List Event) → All (IsAllowed net v1 v2) so_far → steps_from (line_step places) so_far lines ≡ Ok events
          → All (IsAllowed net v1 v2) events)
          → (reported : Option Event) → event_at places here.line here.text ≡ reported
          → elim (elim reported as (λ _. Result (List Event) ℕ) [ None ↦ Err here.line | Some made ↦ Ok (so_far ++ made ∷ []) ])
          as (λ _. Result (List Event) ℕ) [
            | Ok next ↦ steps_from (line_step places) next lines
            | Err fault ↦ Err fault
          ] ≡ Ok events → All (IsAllowed net v1 v2) events
      by later None at is = cc
      by later (Some made) at is =
          later (so_far ++ made ∷ [])
          (All-push (IsAllowed net v1 v2) so_far made all (line_allowed here.line here.text made at)) is

pub read_events_are_allowed_lem : ReadEventsAreAllowed
unfolding order_of
read_events_are_allowed_lem net v1 v2 places text events are is =
    lines_allowed net v1 v2 places are (numbered 1 (lines_of text)) [] events (All-nil (IsAllowed net v1 v2)) is

-- what is read by the places of a network is allowed there
pub reads_allowed : (net : Circuit) (v1 v2 : List Trit) (places : List Place) (text : List ℕ) (answer : Result (List Event) OrderFault)
    → ArePlaces net v1 v2 places → Reads answer (order_of places text) → IfOk answer (All (IsAllowed net v1 v2))
reads_allowed net v1 v2 places text (Ok events) are reads = read_events_are_allowed_lem net v1 v2 places text events are reads
reads_allowed net v1 v2 places text (Err fault) are reads = tt

-- what is answered when out of memory is always allowed
pub memory_is_free : (net : Circuit) (v1 v2 : List Trit) (text : List ℕ) (answer : Result (List Event) OrderFault)
    → IsErrAnd answer (λ given. given ≡ fault.NoMemory) → ReadsFor net v1 v2 text answer
memory_is_free net v1 v2 text (Ok events) is = absurd is
memory_is_free net v1 v2 text (Err given) is =
    let found = some_places net v1 v2 in
    record {
      places = found.0;
      are_places = found.1;
      reads = subst (λ (reported : OrderFault). Reads (Err reported) (order_of found.0 text)) (sym is) tt;
    }
