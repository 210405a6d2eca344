-- Links of one wiring over the same cells are alike.
use Rattle.std.proofs.Common.{◌≡◌, ℕ, suc, ◌∙◌, List, [], ◌∷◌, length, inl, inr, refl}
use Rattle.std.proofs.Common.{sym, ap, subst, arith}
use Rattle.std.specs.Prelude.{Option, Some, None, slice_get}
use Rattle.std.proofs.lemmas.Option.{slice_get_within, slice_get_cases, get_or_from_slice_get}
use Rattle.ca_cell.specs.declared.raw.RawCell.{RawCell}
use Rattle.ca_linked.specs.declared.parts.Body.{Body}
use Rattle.ca_linked.specs.declared.parts.Body.TheVariants.{Gate, Scan}
use Rattle.ca_linked.specs.declared.parts.ScanNets.{ScanNets}
use Rattle.ca_linked.specs.declared.parts.Part.{Part}
use Rattle.ca_linked.specs.declared.parts.PortBit.{PortBit}
use Rattle.ca_linked.specs.Linked.{no_cell, input_nets, output_nets}
use Rattle.ca_linked.specs.Instances.{IsCellOf}
use Rattle.ca_wiring.specs.Wiring.{Meaning, Unknown, Broken, Library, ScanCell, WiredPart, HeaderBit, Wiring}
use Rattle.ca_wiring.specs.Nets.{AreNets, IsNetOf, AreNetsOf}
use Rattle.ca_wiring.specs.Linking.{HasMeaning, IsPartOf, IsPortOf}
use Rattle.ca_link.proofs.NetsLemmas.{ascending_once, same_nets}
use Rattle.ca_link_laws.specs.Alike.{AreBodiesAlike, ArePartsAlike}
use Rattle.ca_link_laws.specs.Laws.{LinksAreAlike, LinksHaveOneCell}

-- the item at a place of a list that is as long as another
pub item_at : {X Y : Type 0} (xs : List X) (ys : List Y) (u : ℕ) (x : X) → length xs ≡ length ys → slice_get xs u ≡ Some x
    → (y : Y) × (slice_get ys u ≡ Some y)
item_at xs ys u x same at = elim (slice_get_cases ys u).1 [
  | inl there ↦ (there.0, there.2)
  | inr past ↦ absurd (let le = past.0 in let lt = slice_get_within xs u x at in omega (arith, le, lt, same))
]

-- lists of one length with the same items are the same
pub same_list : {X : Type 0} (xs ys : List X) → length xs ≡ length ys
    → ((u : ℕ) (x y : X) → slice_get xs u ≡ Some x → slice_get ys u ≡ Some y → x ≡ y) → xs ≡ ys
same_list [] [] same each = refl
same_list [] (y ∷ ys) same each = absurd (omega (arith, same))
same_list (x ∷ xs) [] same each = absurd (omega (arith, same))
same_list (x ∷ xs) (y ∷ ys) same each =
    let rest : xs ≡ ys = same_list xs ys (omega (arith, same)) (λ u. each (suc u)) in
    ap (λ it. it ∷ xs) (each 0 x y refl refl) ∙ ap (λ list. y ∷ list) rest

module _ (wiring : Wiring) (nets : List ℕ) (are : AreNets wiring nets) where
  -- the net of a wire is one
  pub one_net : (wire net other : ℕ) → IsNetOf wiring nets wire net → IsNetOf wiring nets wire other → net ≡ other
  one_net wire net other is also =
      let low = is.is_earliest.none_before also.earliest also.is_earliest.joined in
      let high = also.is_earliest.none_before is.earliest is.is_earliest.joined in
      let same : is.earliest ≡ also.earliest = omega (arith, low, high) in
      ascending_once nets net other also.earliest are.ascending (is.at ∙ ap Some same) also.at

  -- so are those of several wires
  pub one_list : (wires list others : List ℕ) → AreNetsOf wiring nets wires list → AreNetsOf wiring nets wires others → list ≡ others
  one_list [] [] [] is also = refl
  one_list [] [] (other ∷ others) is also = absurd also
  one_list [] (net ∷ list) others is also = absurd is
  one_list (wire ∷ wires) [] others is also = absurd is
  one_list (wire ∷ wires) (net ∷ list) [] is also = absurd also
  one_list (wire ∷ wires) (net ∷ list) (other ∷ others) is also =
      ap (λ n. n ∷ list) (one_net wire net other is.0 also.0) ∙ ap (λ l. other ∷ l) (one_list wires list others is.1 also.1)

-- the nets of the pins of a scan cell are those of its input pins and of its output pins
scan_nets : (nets others : ScanNets) → input_nets (Scan nets) ≡ input_nets (Scan others) → output_nets (Scan nets) ≡ output_nets (Scan others)
    → nets ≡ others
scan_nets nets others ins outs = by nets.qn others.qn refl refl
  where
    d : nets.d ≡ others.d
    d = cc

    si : nets.si ≡ others.si
    si = cc

    se : nets.se ≡ others.se
    se = cc

    ck : nets.ck ≡ others.ck
    ck = cc

    hold : nets.hold ≡ others.hold
    hold = cc

    q : nets.q ≡ others.q
    q = cc

    whole : nets.qn ≡ others.qn → nets.so ≡ others.so → nets ≡ others
    whole qn so = λ j. record { d = d j; si = si j; se = se j; ck = ck j; hold = hold j; q = q j; qn = qn j; so = so j }

    by : (one other : Option ℕ) → nets.qn ≡ one → others.qn ≡ other → nets ≡ others
    by None None is also =
        let both : nets.q ∷ (nets.so ∷ []) ≡ others.q ∷ (others.so ∷ []) = rw (is, also) at outs in
        let so : nets.so ≡ others.so = cc in
        whole (is ∙ sym also) so
    by None (Some net) is also =
        let both : nets.q ∷ (nets.so ∷ []) ≡ others.q ∷ (net ∷ (others.so ∷ [])) = rw (is, also) at outs in
        absurd cc
    by (Some net) None is also =
        let both : nets.q ∷ (net ∷ (nets.so ∷ [])) ≡ others.q ∷ (others.so ∷ []) = rw (is, also) at outs in
        absurd cc
    by (Some net) (Some other) is also =
        let both : nets.q ∷ (net ∷ (nets.so ∷ [])) ≡ others.q ∷ (other ∷ (others.so ∷ [])) = rw (is, also) at outs in
        let qn : net ≡ other = cc in
        let so : nets.so ≡ others.so = cc in
        whole (is ∙ ap Some qn ∙ sym also) so

-- bodies of one meaning, with the same nets at their pins
same_meaning : (cells others : List RawCell) (meaning : Meaning) (body also : Body) → HasMeaning cells meaning body → HasMeaning others meaning also
    → input_nets body ≡ input_nets also → output_nets body ≡ output_nets also → AreBodiesAlike body also
same_meaning cells others Unknown body also is too ins outs = absurd is
same_meaning cells others (Broken rule) body also is too ins outs = absurd is
same_meaning cells others (Library raw) (Gate cell inputs outputs) (Gate other more results) is too ins outs = (ins, outs)
same_meaning cells others (Library raw) (Gate cell inputs outputs) (Scan nets) is too ins outs = absurd too
same_meaning cells others (Library raw) (Scan nets) also is too ins outs = absurd is
same_meaning cells others (ScanCell row) (Gate cell inputs outputs) also is too ins outs = absurd is
same_meaning cells others (ScanCell row) (Scan nets) (Gate cell inputs outputs) is too ins outs = absurd too
same_meaning cells others (ScanCell row) (Scan nets) (Scan pins) is too ins outs = scan_nets nets pins ins outs

same_part : (cells others : List RawCell) (wiring : Wiring) (nets : List ℕ) → AreNets wiring nets → (wired : WiredPart) (part also : Part)
    → IsPartOf wiring nets cells wired part → IsPartOf wiring nets others wired also → ArePartsAlike part also
same_part cells others wiring nets are wired part also is too = record {
  name = is.name ∙ sym too.name;
  cell = is.cell ∙ sym too.cell;
  data_pin = is.data_pin ∙ sym too.data_pin;
  body = same_meaning cells others wired.meaning part.body also.body is.meaning too.meaning
      (one_list wiring nets are wired.inputs (input_nets part.body) (input_nets also.body) is.inputs too.inputs)
      (one_list wiring nets are wired.outputs (output_nets part.body) (output_nets also.body) is.outputs too.outputs);
}

same_port : (wiring : Wiring) (nets : List ℕ) → AreNets wiring nets → (bit : HeaderBit) (port also : PortBit)
    → IsPortOf wiring nets bit port → IsPortOf wiring nets bit also → port ≡ also
same_port wiring nets are bit port also is too =
    let name : port.name ≡ also.name = is.name ∙ sym too.name in
    let is_input : port.is_input ≡ also.is_input = is.is_input ∙ sym too.is_input in
    let net : port.net ≡ also.net = one_net wiring nets are bit.wire port.net also.net is.net too.net in
    λ j. record { name = name j; is_input = is_input j; net = net j }

pub links_alike : LinksAreAlike
links_alike wiring chip also link too = record {
  nets = link.count ∙ ap length (sym lists) ∙ sym too.count;
  ports = same_list chip.ports also.ports (link.same_ports ∙ sym too.same_ports) (λ p port other at at_other.
      let bit = item_at chip.ports wiring.header p port link.same_ports at in
      same_port wiring link.nets link.are bit.0 port other (link.ports p bit.0 port bit.1 at)
      (subst (λ list. IsPortOf wiring list bit.0 other) lists (too.ports p bit.0 other bit.1 at_other)));
  same_parts = link.same_parts ∙ sym too.same_parts;
  parts = λ u part other at at_other.
      let wired = item_at chip.parts wiring.parts u part link.same_parts at in
      same_part chip.cells also.cells wiring link.nets link.are wired.0 part other (link.parts u wired.0 part wired.1 at)
      (subst (λ list. IsPartOf wiring list also.cells wired.0 other) lists (too.parts u wired.0 other wired.1 at_other));
}
  where
    lists : too.nets ≡ link.nets
    lists = same_nets wiring too.nets link.nets too.are link.are

-- over the same cells, bodies of one meaning are of the same subcircuit
meaning_cell : (cells : List RawCell) (meaning : Meaning) (body also : Body) (raw : RawCell) → HasMeaning cells meaning body → HasMeaning cells meaning also
    → IsCellOf cells body raw → IsCellOf cells also raw
meaning_cell cells Unknown body also raw is too of = absurd is
meaning_cell cells (Broken rule) body also raw is too of = absurd is
meaning_cell cells (Library named) (Gate cell inputs outputs) (Gate other more results) raw is too of =
    of ∙ get_or_from_slice_get cells cell named no_cell is ∙ sym (get_or_from_slice_get cells other named no_cell too)
meaning_cell cells (Library named) (Gate cell inputs outputs) (Scan nets) raw is too of = absurd too
meaning_cell cells (Library named) (Scan nets) also raw is too of = absurd is
meaning_cell cells (ScanCell row) (Gate cell inputs outputs) also raw is too of = absurd is
meaning_cell cells (ScanCell row) (Scan nets) also raw is too of = absurd of

pub one_cell : LinksHaveOneCell
one_cell wiring chip also link too cells u part other raw at at_other of =
    let wired = item_at chip.parts wiring.parts u part link.same_parts at in
    let is = (link.parts u wired.0 part wired.1 at).meaning in
    let also_is = subst (λ raws. HasMeaning raws wired.0.meaning other.body) (sym cells) (too.parts u wired.0 other wired.1 at_other).meaning in
    subst (λ raws. IsCellOf raws other.body raw) cells (meaning_cell chip.cells wired.0.meaning part.body other.body raw is also_is of)
