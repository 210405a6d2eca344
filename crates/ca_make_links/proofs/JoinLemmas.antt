-- Which wires of a generated chip are joined: a chip output with the wire of its gate, and nothing else.
use Rattle.std.proofs.Common.{◌≡◌, ℕ, ◌+◌, ◌-◌, ◌<◌, ◌≤◌, Bool, true, false, List, [], ◌∷◌, ◌++◌, length, map}
use Rattle.std.proofs.Common.{nat_lt}
use Rattle.std.proofs.Common.{if◌then◌else◌, get_or, Some, inl, inr, refl, sym, ap, ◌∙◌, arith}
use Rattle.std.specs.Prelude.{slice_get}
use Rattle.std.specs.List.{Contains}
use Rattle.std.proofs.lemmas.Bool.{lt-ltb, le-ltb, ltb-true, ltb-false}
use Rattle.std.proofs.lemmas.Option.{slice_get-get_or, get_or_from_slice_get, slice_get_within}
use Rattle.ca_verilog.specs.declared.raw.RawBus.{RawBus}
use Rattle.ca_verilog.specs.declared.table.Direction.{Direction}
use Rattle.ca_verilog.specs.IsNetlist.{bit_count}
use Rattle.ca_wiring.specs.declared.joined.Join.{Join}
use Rattle.ca_wiring.specs.Joined.{Links, AreJoined, Same, Across}
use Rattle.ca_wiring.specs.Wiring.{joins_of}
use Rattle.ca_make.specs.declared.gate.TheConstants.{INPUTS}
use Rattle.ca_make_laws.specs.ChipNetlist.{bus, candidate_bit, wire_bit, output_join, each_from}
use Rattle.ca_make_links.proofs.PartLemmas.{given_at}

-- the join of a chip output
abbrev pub chip_join : ℕ → ℕ → ℕ → Join
chip_join outputs j k = record { left = INPUTS + j; right = wire_bit outputs k }

pub joins_are : (bits outputs from : ℕ) (xs : List ℕ)
    → joins_of bits (each_from (output_join outputs) from xs) ≡ each_from (chip_join outputs) from xs
joins_are bits outputs from [] = refl
joins_are bits outputs from (k ∷ xs) =
    ap (λ (list : List Join). chip_join outputs from k ∷ list) (joins_are bits outputs (from + 1) xs)

-- an entry of a list is at a place
pub entry_at : {T : Type 0} (xs : List T) (x : T) → Contains xs x → (k : ℕ) × (slice_get xs k ≡ Some x)
entry_at xs x has = (has.0, slice_get-get_or xs has.0 x has.1 ∙ ap Some has.2)

module _ (outputs : List ℕ) where
  -- the wire by which the net of a wire is known: that of its gate, for a chip output
  abbrev pub known_as : ℕ → ℕ
  known_as x = if nat_lt x INPUTS then x
      else if nat_lt (x - INPUTS) (length outputs) then wire_bit (length outputs) (get_or outputs (x - INPUTS) 0) else x

  pub known_input : (x : ℕ) → x < INPUTS → known_as x ≡ x
  known_input x lt =
      ap (λ (b : Bool). if b then x
      else if nat_lt (x - INPUTS) (length outputs) then wire_bit (length outputs) (get_or outputs (x - INPUTS) 0) else x)
      (lt-ltb x INPUTS lt)

  pub known_wire : (x : ℕ) → INPUTS + length outputs ≤ x → known_as x ≡ x
  known_wire x le =
      ap (λ (b : Bool). if b then x
      else if nat_lt (x - INPUTS) (length outputs) then wire_bit (length outputs) (get_or outputs (x - INPUTS) 0) else x)
      (le-ltb x INPUTS (omega (arith, le)))
      ∙ ap (λ (b : Bool). if b then wire_bit (length outputs) (get_or outputs (x - INPUTS) 0) else x)
      (le-ltb (x - INPUTS) (length outputs) (omega (arith, le)))

  pub known_output : (j k : ℕ) → slice_get outputs j ≡ Some k → known_as (INPUTS + j) ≡ wire_bit (length outputs) k
  known_output j k at =
      let lt = slice_get_within outputs j k at in
      ap (λ (b : Bool). if b then INPUTS + j
      else if nat_lt (INPUTS + j - INPUTS) (length outputs)
      then wire_bit (length outputs) (get_or outputs (INPUTS + j - INPUTS) 0) else INPUTS + j)
      (le-ltb (INPUTS + j) INPUTS (omega arith))
      ∙ ap (λ n. if nat_lt n (length outputs) then wire_bit (length outputs) (get_or outputs n 0) else INPUTS + j)
      (let e : INPUTS + j - INPUTS ≡ j = omega arith in e)
      ∙ ap (λ (b : Bool). if b then wire_bit (length outputs) (get_or outputs j 0) else INPUTS + j) (lt-ltb j (length outputs) lt)
      ∙ ap (wire_bit (length outputs)) (get_or_from_slice_get outputs j k 0 at)

  pub known_candidate : (at : ℕ) → known_as (candidate_bit (length outputs) at) ≡ candidate_bit (length outputs) at
  known_candidate at = by (nat_lt at INPUTS) refl
    where
      by : (b : Bool) → nat_lt at INPUTS ≡ b
          → known_as (if b then at else length outputs + at) ≡ (if b then at else length outputs + at)
      by true is = known_input at (ltb-true at INPUTS is)
      by false is = known_wire (length outputs + at) (let above = ltb-false at INPUTS is in omega (arith, above))

  abbrev pub chip_joins : List Join
  chip_joins = each_from (chip_join (length outputs)) 0 outputs

  -- both sides of a join are known as one
  join_known : (join : Join) → Contains chip_joins join → known_as join.left ≡ known_as join.right
  join_known join has =
      let at = entry_at chip_joins join has in
      let given = given_at (chip_join (length outputs)) 0 outputs at.0 join at.1 in
      ap (λ (it : Join). known_as it.left) given.is
      ∙ ap known_as (let e : INPUTS + (0 + at.0) ≡ INPUTS + at.0 = omega arith in e)
      ∙ known_output at.0 given.entry given.at
      ∙ sym (known_wire (wire_bit (length outputs) given.entry) (omega arith))
      ∙ sym (ap (λ (it : Join). known_as it.right) given.is)

  linked : (join : Join) (a b : ℕ) → Contains chip_joins join → Links join a b → known_as a ≡ known_as b
  linked join a b has (inl forth) = ap known_as (sym forth.0) ∙ join_known join has ∙ ap known_as forth.1
  linked join a b has (inr back) = ap known_as (sym back.0) ∙ sym (join_known join has) ∙ ap known_as back.1

  -- joined wires are known as one
  pub joined_known : {a b : ℕ} → AreJoined chip_joins a b → known_as a ≡ known_as b
  joined_known (Same is) = ap known_as is
  joined_known (Across {b} join c before has links) = joined_known before ∙ linked join c b has links

-- how many bits are declared
pub bits_with : (direction : Direction) (names : List (List ℕ)) (rest : List RawBus)
    → bit_count (map (bus direction) names ++ rest) ≡ length names + bit_count rest
bits_with direction [] rest = let e : bit_count rest ≡ 0 + bit_count rest = omega arith in e
bits_with direction (name ∷ names) rest =
    ap (λ n. 1 + n) (bits_with direction names rest)
    ∙ (let e : 1 + (length names + bit_count rest) ≡ length (name ∷ names) + bit_count rest = omega arith in e)
