-- An order file line by line.
use Rattle.std.proofs.Common.{◌≡◌, ℕ, ◌+◌, List, [], ◌∷◌, ◌++◌, ◌∙◌, length, ap, sym, refl, arith, Some, None}
use Rattle.std.proofs.Common.{Result, Ok, Err}
use Rattle.ca_lex.specs.FirstFault.{steps_from}
use Rattle.ca_order.specs.declared.event.Event.{Event}
use Rattle.ca_order.specs.declared.event.Place.{Place}
use Rattle.ca_lex.specs.Physical.{lines_of}
use Rattle.ca_order.specs.Order.{event_at, line_step, numbered, order_of}

pub begins : (places : List Place) (text : List ℕ) (events : List Event) → events ≡ []
    → order_of places text ≡ steps_from (line_step places) events (numbered 1 (lines_of text))
unfolding order_of
begins places text events none = ap (λ (given : List Event). steps_from (line_step places) given (numbered 1 (lines_of text))) (sym none)

pub all_read : (places : List Place) (line : ℕ) (events : List Event) (rest : List ℕ) → length rest ≡ 0
    → steps_from (line_step places) events (numbered line (lines_of rest)) ≡ Ok events
unfolding steps_from numbered lines_of
all_read places line events [] none = refl
all_read places line events (byte ∷ bytes) none = absurd (omega (arith, none))

pub one_event : (places : List Place) (line : ℕ) (events : List Event) (rest text following : List ℕ) (event : Event)
    → lines_of rest ≡ text ∷ lines_of following → event_at places line text ≡ Some event
    → steps_from (line_step places) events (numbered line (lines_of rest))
    ≡ steps_from (line_step places) (events ++ event ∷ []) (numbered (line + 1) (lines_of following))
unfolding steps_from numbered
one_event places line events rest text following event cut is =
    ap (λ (lines : List (List ℕ)). steps_from (line_step places) events (numbered line lines)) cut
    ∙ (λ j. elim (elim (is j) as (λ _. Result (List Event) ℕ) [ None ↦ Err line | Some event ↦ Ok (events ++ event ∷ []) ]) as (λ _. Result (List Event) ℕ) [
      | Ok next ↦ steps_from (line_step places) next (numbered (line + 1) (lines_of following))
      | Err fault ↦ Err fault
    ])

pub no_line : (places : List Place) (line : ℕ) (events : List Event) (rest text following : List ℕ) → lines_of rest ≡ text ∷ lines_of following
    → event_at places line text ≡ None → steps_from (line_step places) events (numbered line (lines_of rest)) ≡ Err line
unfolding steps_from numbered
no_line places line events rest text following cut is =
    ap (λ (lines : List (List ℕ)). steps_from (line_step places) events (numbered line lines)) cut
    ∙ (λ j. elim (elim (is j) as (λ _. Result (List Event) ℕ) [ None ↦ Err line | Some event ↦ Ok (events ++ event ∷ []) ]) as (λ _. Result (List Event) ℕ) [
      | Ok next ↦ steps_from (line_step places) next (numbered (line + 1) (lines_of following))
      | Err fault ↦ Err fault
    ])
