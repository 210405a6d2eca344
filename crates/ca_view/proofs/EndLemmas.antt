-- The nets of the chip inputs, and the observed nets.
use Rattle.std.proofs.Common.{◌≡◌, ℕ, suc, ◌+◌, ◌<◌, List, [], ◌∷◌, ◌++◌, Bool, true, false, length, inl, inr}
use Rattle.std.proofs.Common.{refl, sym, ◌∙◌, ap, subst, arith, get_or, set, take, map, replicate, eqb}
use Rattle.std.proofs.Common.{length-set}
use Rattle.std.specs.Prelude.{◌↔◌, slice_get, Some, not, ◌&&◌, if◌then◌else◌}
use Rattle.std.specs.List.{All, Contains, flat_map}
use Rattle.std.proofs.lemmas.List.{get_or-map, length-map, get_or-set_same, get_or-set_other}
use Rattle.std.proofs.lemmas.List.{length-replicate, get_or-replicate, get_or_past, take_more, get_or_default}
use Rattle.std.proofs.lemmas.List.Elements.{Contains-append_cases, Contains-append_left, Contains-push}
use Rattle.std.proofs.lemmas.List.Elements.{Contains-push_cases}
use Rattle.std.proofs.lemmas.Option.{slice_get_within, slice_get-get_or, get_or_from_slice_get}
use Rattle.std.proofs.lemmas.Bool.{cases_lt, eqb-true, eqb-false}
use Rattle.ca_linked.specs.declared.parts.Body.{Body}
use Rattle.ca_linked.specs.declared.parts.Part.{Part}
use Rattle.ca_linked.specs.declared.parts.PortBit.{PortBit}
use Rattle.ca_linked.specs.declared.parts.Body.TheVariants.{Gate, Scan}
use Rattle.ca_linked.specs.Linked.{LinkedChip, net_count, is_scan_path, data_nets, port_nets, q_nets, inputs_of}
use Rattle.ca_linked.specs.Linked.{outputs_of, IsWired}
use Rattle.ca_linked.proofs.OrderLemmas.{contained_at}
use Rattle.ca_view.specs.Core.{core_net, core_of}
use Rattle.ca_view.specs.Numbers.{Numbers, AreCoreNumbers}
use Rattle.ca_view.proofs.CoreLemmas.{IsOutside}
use Rattle.ca_view.proofs.CoreIsChip.{data_within, data_outside, number_within, outputs_outside, core_is}
use Rattle.ca_view.specs.code.Ends.{AreMarked}

-- what the pieces of a list contain
contains_piece : {X : Type 0} (f : X → List ℕ) (xs : List X) (n : ℕ) → Contains (flat_map f xs) n → (x : X) × Contains xs x × Contains (f x) n
contains_piece f [] n has = absurd (let lt = has.1 in omega arith)
contains_piece f (x ∷ xs) n has = elim (Contains-append_cases (f x) (flat_map f xs) n has) [
  | inl here ↦ (x, (0, omega arith, refl), here)
  | inr later ↦
      let found = contains_piece f xs n later in
      (found.0, (suc found.1.0, (let lt = found.1.1 in omega arith), found.1.2), found.2)
]

q_is_data : (body : Body) (net : ℕ) → Contains (q_nets body) net → Contains (data_nets body) net
q_is_data (Gate cell inputs outputs) net has = absurd (let lt = has.1 in omega arith)
q_is_data (Scan nets) net has =
    let first : has.0 ≡ 0 = let lt = has.1 in omega arith in
    (1, omega arith, ap (λ k. get_or (nets.q ∷ []) k net) (sym first) ∙ has.2)

module _ (chip : LinkedChip) (is : IsWired chip) where
  -- the nets of chip inputs are off the scan path
  pub inputs_outside : (net : ℕ) → Contains (inputs_of chip) net → (net < net_count chip) × IsOutside chip net
  inputs_outside net has = elim (Contains-append_cases (port_nets chip true) (flat_map (λ (p : Part). q_nets p.body) chip.parts) net has) [
    | inl of_port ↦
        let found = contains_piece (λ port. if (if port.is_input then true else not true) && not (is_scan_path chip port.net) then port.net ∷ [] else []) chip.ports net of_port in
        by_port found.0 found.1 found.2
    | inr of_part ↦
        let found = contains_piece (λ (p : Part). q_nets p.body) chip.parts net of_part in
        let at : slice_get chip.parts found.1.0 ≡ Some found.0 = slice_get-get_or chip.parts found.1.0 found.0 found.1.1 ∙ ap Some found.1.2 in
        let in_data = q_is_data found.0.body net found.2 in
        (data_within chip is found.1.0 found.0 net at in_data, data_outside chip is found.1.0 found.0 net at in_data)
  ]
    where
      by_port : (port : PortBit) → Contains chip.ports port → Contains (if (if port.is_input then true else not true) && not (is_scan_path chip port.net) then port.net ∷ [] else []) net
          → (net < net_count chip) × IsOutside chip net
      by_port port at piece = by port.is_input (is_scan_path chip port.net) refl piece
        where
          by : (input path : Bool) → is_scan_path chip port.net ≡ path → Contains (if (if input then true else not true) && not path then port.net ∷ [] else []) net
              → (net < net_count chip) × IsOutside chip net
          by false path e there = absurd (let lt = there.1 in omega arith)
          by true true e there = absurd (let lt = there.1 in omega arith)
          by true false e there =
              let first : there.0 ≡ 0 = let lt = there.1 in omega arith in
              let same : port.net ≡ net = ap (λ k. get_or (port.net ∷ []) k net) (sym first) ∙ there.2 in
              (subst (λ n. n < net_count chip) same (subst (λ (q : PortBit). q.net < net_count chip) at.2 (is.ports_on_nets at.0 port at.1)), subst (IsOutside chip) same e)

  module _ (numbers : Numbers) (are : AreCoreNumbers chip numbers) where
    pub input_within : (i net : ℕ) → slice_get (inputs_of chip) i ≡ Some net → net < length numbers.numbers
    input_within i net at =
        let off = inputs_outside net (contained_at (inputs_of chip) i net at) in
        let within = off.0 in
        let room = are.room in
        omega arith

    -- the number of the net of a chip input is its net in the core
    pub input_is : (i net k : ℕ) → slice_get (inputs_of chip) i ≡ Some net → k ≡ get_or numbers.numbers net 0 → k ≡ get_or (core_of chip).inputs i 0
    input_is i net k at e =
        e ∙ are.each net (inputs_outside net (contained_at (inputs_of chip) i net at)).0
        ∙ sym (get_or-map (core_net chip) (inputs_of chip) i 0 0 (slice_get_within (inputs_of chip) i net at)
        ∙ ap (core_net chip) (get_or_from_slice_get (inputs_of chip) i net 0 at))

    pub output_within : (o net : ℕ) → slice_get (outputs_of chip) o ≡ Some net → net < length numbers.numbers
    output_within o net at =
        let off = outputs_outside chip is net (contained_at (outputs_of chip) o net at) in
        let within = off.0 in
        let room = are.room in
        omega arith

    pub output_is : (o net k : ℕ) → slice_get (outputs_of chip) o ≡ Some net → k ≡ get_or numbers.numbers net 0 → k ≡ get_or (core_of chip).outputs o 0
    output_is o net k at e =
        e ∙ are.each net (outputs_outside chip is net (contained_at (outputs_of chip) o net at)).0
        ∙ sym (get_or-map (core_net chip) (outputs_of chip) o 0 0 (slice_get_within (outputs_of chip) o net at)
        ∙ ap (core_net chip) (get_or_from_slice_get (outputs_of chip) o net 0 at))

  -- the chip inputs are on nets of the core
  pub core_inputs_within : All (λ net. net < length (core_of chip).nets) (core_of chip).inputs
  core_inputs_within i d lt =
      let within : i < length (inputs_of chip) = let l = length-map (inputs_of chip) (core_net chip) in omega arith in
      let net = get_or (inputs_of chip) i 0 in
      let off = inputs_outside net (contained_at (inputs_of chip) i net (slice_get-get_or (inputs_of chip) i 0 within)) in
      subst (λ n. n < length (core_of chip).nets) (sym (get_or-map (core_net chip) (inputs_of chip) i 0 d within)) (number_within chip is net off.0 off.1)

-- nor is an observed output on another
pub core_outputs_within : (chip : LinkedChip) → IsWired chip → All (λ net. net < length (core_of chip).nets) (core_of chip).outputs
core_outputs_within chip is o d lt = (core_is chip is).observed (get_or (core_of chip).outputs o d) (o, lt, get_or_default (core_of chip).outputs o (get_or (core_of chip).outputs o d) d lt)

-- so each is below the number of nets of the core
pub numbers_cover : (chip : LinkedChip) → IsWired chip → (numbers : Numbers) (count : ℕ) (outputs : List ℕ) → AreCoreNumbers chip numbers
    → count ≡ numbers.count → outputs ≡ (core_of chip).outputs → All (λ net. net < count) outputs
numbers_cover chip is numbers count outputs are counted same =
    subst (λ n. All (λ net. net < n) outputs) (sym (counted ∙ are.total))
    (subst (All (λ net. net < length (core_of chip).nets)) (sym same) (core_outputs_within chip is))

-- no net is marked
pub none_marked : (count : ℕ) → AreMarked count [] (replicate count false)
none_marked count = record {
  room = length-replicate count false;
  marked = λ net. (
    (λ there. elim (cases_lt net count) [
      | inl within ↦ absurd (let e = get_or-replicate count net false false within in cc)
      | inr past ↦ absurd (let e = get_or_past (replicate count false) net false (let l = length-replicate count false in omega arith) in cc)
    ]),
    (λ there. absurd (let lt = there.1 in omega arith)),
  );
}

-- one net more is marked
pub marked_more : (count net : ℕ) (nets : List ℕ) (marks : List Bool) → AreMarked count nets marks → net < count → AreMarked count (nets ++ net ∷ []) (set marks net true)
marked_more count net nets marks are within = record {
  room = length-set marks net true ∙ are.room;
  marked = λ n. by n (eqb n net) refl;
}
  where
    by : (n : ℕ) (b : Bool) → eqb n net ≡ b → (get_or (set marks net true) n false ≡ true) ↔ Contains (nets ++ net ∷ []) n
    by n true test =
        let same = eqb-true n net test in (
          (λ there. subst (Contains (nets ++ net ∷ [])) (sym same) (Contains-push nets net)),
          (λ there. ap (λ k. get_or (set marks net true) k false) same ∙ get_or-set_same marks net true false (let r = are.room in omega arith)),
        )
    by n false test =
        let differ = eqb-false n net test in
        let other = get_or-set_other marks net n true false differ in (
          (λ there. Contains-append_left nets (net ∷ []) n ((are.marked n).0 (sym other ∙ there))),
          (λ there. elim (Contains-push_cases nets net n there) [
            | inl before ↦ other ∙ (are.marked n).1 before
            | inr here ↦ absurd (differ (sym here))
          ]),
        )

-- one chip input more
pub next_net : (xs nets new : List ℕ) (i k : ℕ) → i < length xs → nets ≡ take i xs → k ≡ get_or xs i 0 → new ≡ nets ++ k ∷ [] → new ≡ take (i + 1) xs
next_net xs nets new i k within before is e =
    e ∙ ap (λ (l : List ℕ). l ++ k ∷ []) before ∙ ap (λ n. take i xs ++ n ∷ []) is ∙ sym (take_more xs i 0 within)

-- one observed net more
pub next_marked : (count : ℕ) (xs : List ℕ) (marks : List Bool) (o : ℕ) → AreMarked count (take o xs) marks → o < length xs → get_or xs o 0 < count
    → AreMarked count (take (o + 1) xs) (set marks (get_or xs o 0) true)
next_marked count xs marks o are within below =
    subst (λ (l : List ℕ). AreMarked count l (set marks (get_or xs o 0) true)) (sym (take_more xs o 0 within))
    (marked_more count (get_or xs o 0) (take o xs) marks are below)

pub core_length : (chip : LinkedChip) (xs : List ℕ) (i net : ℕ) → slice_get xs i ≡ Some net → i < length (map (core_net chip) xs)
core_length chip xs i net at = let l = length-map xs (core_net chip) in let within = slice_get_within xs i net at in omega arith
