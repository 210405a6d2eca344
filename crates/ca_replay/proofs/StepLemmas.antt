-- What events lead to, by the responses of all nodes.
use Rattle.std.proofs.Common.{◌≡◌, ℕ, ◌<◌, List, length, inl, inr, refl, sym, ◌∙◌, ap, subst}
use Rattle.std.specs.List.{All, Contains}
use Rattle.ca_net.specs.declared.trit.Trit.{Trit}
use Rattle.ca_net.specs.declared.node.NodeId.{NodeId}
use Rattle.ca_net.specs.Trit.{IsBelow, meet_of}
use Rattle.ca_net.specs.Circuit.{Circuit, IsWellFormed}
use Rattle.ca_net.specs.State.{IsState, value_at}
use Rattle.ca_net.specs.Response.{IsResponse, AreResponses}
use Rattle.ca_net.specs.Event.{Settle, Blur, AllNodes, Step}
use Rattle.ca_net.proofs.ResponseLaws.{response_rises_lem}
use Rattle.ca_net.proofs.StateLemmas.{storage_or_input, storage_within, response_of_input}
use Rattle.ca_net.proofs.ReachingRun.{Trit-stable}
use Rattle.ca_order.specs.declared.event.Event as order
use Rattle.ca_order.specs.declared.event.Event.TheVariants as order_event
use Rattle.ca_order.specs.Allowed.{numbers, meaning}
use Rattle.ca_replay.specs.code.Kept.{with_values, met_with, IsWithin, IsEventOf}
use Rattle.ca_replay.proofs.ValueLemmas.{are_within, length-with_values, with_others, with_listed}
use Rattle.ca_replay.proofs.ValueLemmas.{length-met_with, met_others, met_listed, meet_differs, meet_same}

IsBelow-both : (a b : Trit) → IsBelow a b → IsBelow b a → a ≡ b
IsBelow-both a b (inr e) q = e
IsBelow-both a b (inl e) (inl f) = e ∙ sym f
IsBelow-both a b (inl e) (inr f) = sym f

-- a node has one response
pub one_response : (net : Circuit) → IsWellFormed net → (s : List Trit) (n : ℕ) (v w : Trit) → IsResponse net s n v → IsResponse net s n w → v ≡ w
one_response net well_formed s n v w one other = elim (storage_or_input net n) [
  | inl storage ↦
      let lt = storage_within net n storage in
      IsBelow-both v w (response_rises_lem net s s n v w well_formed lt (λ m. inr refl) one other)
      (response_rises_lem net s s n w v well_formed lt (λ m. inr refl) other one)
  | inr input ↦ response_of_input net s n v input one ∙ sym (response_of_input net s n w input other)
]

module _ (net : Circuit) (well_formed : IsWellFormed net) (s responses : List Trit) (is_state : IsState net s)
    (are : AreResponses net s responses) (nodes : List NodeId) (named : AllNodes net (numbers nodes)) (within : All (IsWithin (length s)) nodes) where
  pub settle_step : Step net s (Settle (numbers nodes)) (with_values responses nodes s)
  settle_step = (
    length-with_values responses nodes s ∙ is_state,
    λ n has. subst (IsResponse net s n) (sym (with_listed responses nodes s within n has)) (are.responds n (named n has)),
    λ n out. with_others responses nodes s n out,
  )

  pub blur_step : Step net s (Blur (numbers nodes)) (met_with responses nodes s)
  blur_step = (
    length-met_with responses nodes s ∙ is_state,
    λ n has unstable.
        met_listed responses nodes s within n has
        ∙ meet_differs (value_at s n) (value_at responses n)
        (λ same. unstable (subst (IsResponse net s n) (sym same) (are.responds n (named n has)))),
    λ n stays. Trit-stable _ _ (λ no.
        let none : Contains (numbers nodes) n → ⊥ = λ has. stays has (λ own.
        let same : value_at s n ≡ value_at responses n
        = one_response net well_formed s n (value_at s n) (value_at responses n) own (are.responds n (named n has)) in
        no (met_listed responses nodes s within n has ∙ (ap (λ x. meet_of (value_at s n) x) (sym same) ∙ meet_same (value_at s n)))) in
        no (met_others responses nodes s n none)),
  )

-- the nodes of an event are in range
module _ (net : Circuit) (count : ℕ) (is_state : count ≡ length net.nodes) (event : order.Event) (nodes given : List NodeId)
    (same : given ≡ nodes) (is_event : IsEventOf net event) where
  nodes_within : AllNodes net (numbers nodes) → All (IsWithin count) given
  nodes_within named =
      subst (All (IsWithin count)) (sym same)
      (are_within count nodes (λ n has. subst (λ k. n < k) (sym is_state) (named n has)))

  pub settled_within : event ≡ order_event.Settle nodes → All (IsWithin count) given
  settled_within is = nodes_within (subst (IsEventOf net) is is_event)

  pub blurred_within : event ≡ order_event.Blur nodes → All (IsWithin count) given
  blurred_within is = nodes_within (subst (IsEventOf net) is is_event)

-- what an event leads to
module _ (net : Circuit) (well_formed : IsWellFormed net) (s responses : List Trit) (is_state : IsState net s)
    (are : AreResponses net s responses) (event : order.Event) (nodes given : List NodeId) (same : given ≡ nodes)
    (is_event : IsEventOf net event) (new : List Trit) where
  pub settled_step : event ≡ order_event.Settle nodes → new ≡ with_values responses given s → Step net s (meaning event) new
  settled_step is written =
      let named : AllNodes net (numbers nodes) = subst (IsEventOf net) is is_event in
      let within = settled_within net (length s) is_state event nodes nodes refl is_event is in
      subst (λ e. Step net s (meaning e) new) (sym is)
      (subst (Step net s (Settle (numbers nodes))) (sym (written ∙ ap (λ (listed : List NodeId). with_values responses listed s) same))
      (settle_step net well_formed s responses is_state are nodes named within))

  pub blurred_step : event ≡ order_event.Blur nodes → new ≡ met_with responses given s → Step net s (meaning event) new
  blurred_step is written =
      let named : AllNodes net (numbers nodes) = subst (IsEventOf net) is is_event in
      let within = blurred_within net (length s) is_state event nodes nodes refl is_event is in
      subst (λ e. Step net s (meaning e) new) (sym is)
      (subst (Step net s (Blur (numbers nodes))) (sym (written ∙ ap (λ (listed : List NodeId). met_with responses listed s) same))
      (blur_step net well_formed s responses is_state are nodes named within))
