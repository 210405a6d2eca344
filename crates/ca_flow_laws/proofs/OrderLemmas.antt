-- A text has one first faulty line in a run.
use Rattle.std.proofs.Common.{ℕ, ◌≡◌, ◌∙◌, sym, subst, List, Err}
use Rattle.ca_order.specs.declared.event.Place.{Place}
use Rattle.ca_order.specs.Order.{order_of}
use Rattle.ca_chip_replay.specs.ChipRun.{RunOf}
use Rattle.ca_simulate.specs.OneRun.{IsFaultyLine}
use Rattle.ca_simulate.proofs.RunLemmas.{places_are}

pub one_line : (run : RunOf) (text : List ℕ) (line other : ℕ) → IsFaultyLine run line text → IsFaultyLine run other text → line ≡ other
one_line run text line other one also =
    let places : one.places ≡ also.places = places_are _ _ _ one.places also.places one.are_places also.are_places in
    let read : order_of also.places text ≡ Err line = subst (λ (it : List Place). order_of it text ≡ Err line) places one.reads in
    let both = sym read ∙ also.reads in
    cc
