-- The links of a chip's pins are what the chip says of its nets.
use Rattle.std.proofs.Common.{ℕ, ◌+◌, ◌≡◌, ◌<◌, List, length, sym, ◌∙◌, ap, subst, arith}
use Rattle.std.specs.List.{Contains}
use Rattle.std.proofs.lemmas.Grind.{get_or_default_zero}
use Rattle.ca_flat.specs.Chip.{Chip, inputs_at, outputs_at, net_of, count_of}
use Rattle.ca_flat.specs.Chain.{Feeds}
use Rattle.ca_view.specs.NetLists.{ArePinNets}
use Rattle.ca_view.specs.Pins.{Pins}
use Rattle.ca_view.specs.code.Pins.{inputs_of, outputs_of, ArePinsOf}
use Rattle.ca_view.specs.code.Links.{turned, LinksPins, AreFeeds}

-- the net is on one of the pins
record IsOnPin (chip : Chip) (u before count net : ℕ) : Type 0 where
  pub pin : ℕ
  pub within : pin < count
  pub on : net_of chip u (before + pin) ≡ net

on_pin : (chip : Chip) (u before count : ℕ) (nets : List ℕ) (net : ℕ) → ArePinNets chip u before count nets → Contains nets net → IsOnPin chip u before count net
on_pin chip u before count nets net are there =
    let within : there.0 < count = subst (λ n. there.0 < n) are.counted there.1 in
    record { pin = there.0; within = within; on = sym (are.each there.0 within) ∙ sym (get_or_default_zero nets there.0 net there.1) ∙ there.2 }

from_pin : (chip : Chip) (u before count : ℕ) (nets : List ℕ) (net : ℕ) → ArePinNets chip u before count nets → IsOnPin chip u before count net → Contains nets net
from_pin chip u before count nets net are on =
    let within : on.pin < length nets = subst (λ n. on.pin < n) (sym are.counted) on.within in
    (on.pin, within, get_or_default_zero nets on.pin net within ∙ are.each on.pin on.within ∙ on.on)

module _ (chip : Chip) (pins : Pins) (are : ArePinsOf chip pins) (before net : ℕ) where
  feeds_of : (u : ℕ) → u < pins.count → Contains (inputs_of pins u) before → Contains (outputs_of pins u) net → Feeds chip before net
  feeds_of u within reads drives =
      let known : u < count_of chip = subst (λ n. u < n) are.count within in
      let input = on_pin chip u 0 (inputs_at chip u) (inputs_of pins u) before (are.inputs u known) reads in
      let output = on_pin chip u (inputs_at chip u) (outputs_at chip u) (outputs_of pins u) net (are.outputs u known) drives in
      let same : 0 + input.pin ≡ input.pin = omega arith in
      record {
        instance = u;
        known = known;
        pin = input.pin;
        pin_within = input.within;
        reads = ap (net_of chip u) (sym same) ∙ input.on;
        output = output.pin;
        output_within = output.within;
        drives = output.on;
      }

  reads_of : (feeds : Feeds chip before net) → Contains (inputs_of pins feeds.instance) before
  reads_of feeds =
      let same : 0 + feeds.pin ≡ feeds.pin = omega arith in
      from_pin chip feeds.instance 0 (inputs_at chip feeds.instance) (inputs_of pins feeds.instance) before (are.inputs feeds.instance feeds.known)
      (record { pin = feeds.pin; within = feeds.pin_within; on = ap (net_of chip feeds.instance) same ∙ feeds.reads })

  drives_of : (feeds : Feeds chip before net) → Contains (outputs_of pins feeds.instance) net
  drives_of feeds = from_pin chip feeds.instance (inputs_at chip feeds.instance) (outputs_at chip feeds.instance) (outputs_of pins feeds.instance) net
      (are.outputs feeds.instance feeds.known) (record { pin = feeds.output; within = feeds.output_within; on = feeds.drives })

  known_of : (feeds : Feeds chip before net) → feeds.instance < pins.count
  known_of feeds = subst (λ n. feeds.instance < n) (sym are.count) feeds.known

pub links_are_feeds : (chip : Chip) (pins : Pins) (onward back : List (List ℕ)) → ArePinsOf chip pins → LinksPins pins onward
    → LinksPins (turned pins) back → AreFeeds chip onward back
links_are_feeds chip pins onward back are links links_back = record {
  feeds = λ before net. (
    (λ there. let link = (links.links before net).0 there in feeds_of chip pins are before net link.instance link.known link.link.0 link.link.1),
    (λ feeds. (links.links before net).1 (record {
      instance = feeds.instance;
      known = known_of chip pins are before net feeds;
      link = (reads_of chip pins are before net feeds, drives_of chip pins are before net feeds);
    })),
  );
  fed = λ net before. (
    (λ there. let link = (links_back.links net before).0 there in feeds_of chip pins are before net link.instance link.known link.link.1 link.link.0),
    (λ feeds. (links_back.links net before).1 (record {
      instance = feeds.instance;
      known = known_of chip pins are before net feeds;
      link = (drives_of chip pins are before net feeds, reads_of chip pins are before net feeds);
    })),
  );
}
