-- The instances of a linked chip that have a place in the order are those of the library.
use Rattle.std.proofs.Common.{◌≡◌, ℕ, suc, ◌+◌, List, [], ◌∷◌, ◌++◌, length, refl, sym, ◌∙◌, ap, arith}
use Rattle.std.proofs.Common.{get_or}
use Rattle.std.specs.Prelude.{eqb, slice_get, Some}
use Rattle.std.specs.List.{position_or_len}
use Rattle.std.proofs.lemmas.List.{append-nil, append_assoc}
use Rattle.std.proofs.lemmas.Option.{slice_get_within}
use Rattle.ca_linked.specs.declared.parts.Body.{Body}
use Rattle.ca_linked.specs.declared.parts.Part.{Part}
use Rattle.ca_linked.specs.declared.parts.Body.TheVariants.{Gate, Scan}
use Rattle.ca_linked.specs.Linked.{LinkedChip}
use Rattle.ca_linked.specs.Instances.{if_gate, gates_from, gates_of}
use Rattle.ca_view.specs.Core.{body_rank, rank_in, rank_of, core_of}
use Rattle.ca_view.specs.Linked.{place_in}
use Rattle.ca_chip_defects.specs.code.ChipDefects.{if_placed, placed_before, placed_instances}
use Rattle.ca_view.specs.Places.{AreRanks}
use Rattle.ca_view.proofs.CoreFacts.{core_count}

-- an instance has a place exactly if it is one of the library
placed_is_gate : (chip : LinkedChip) (ranks : List ℕ) (u : ℕ) (part : Part) → get_or ranks u 0 ≡ rank_of chip u → slice_get chip.parts u ≡ Some part
    → if_placed (place_in ranks u) u ≡ if_gate u part.body
placed_is_gate chip ranks u part rank at = ap (λ r. if_placed r u) (rank ∙ ap (rank_in chip u) at) ∙ by part.body
  where
    by : (body : Body) → if_placed (body_rank (position_or_len (eqb u) chip.order) body) u ≡ if_gate u body
    by (Gate cell inputs outputs) = refl
    by (Scan nets) = refl

-- those of these instances that have a place, of which the first is the instance `from`, stand behind those
-- before it
abbrev AreAlike : List ℕ → ℕ → List Part → Type 0
AreAlike ranks from parts =
    (k : ℕ) (part : Part) → slice_get parts k ≡ Some part → if_placed (place_in ranks (from + k)) (from + k) ≡ if_gate (from + k) part.body

placed_next : (ranks : List ℕ) (u : ℕ) → placed_before ranks (u + 1) ≡ placed_before ranks u ++ if_placed (place_in ranks u) u
unfolding placed_before
placed_next ranks u = ap (placed_before ranks) (let e : u + 1 ≡ suc u = omega arith in e)

placed_from : (ranks : List ℕ) (from : ℕ) (parts : List Part) → AreAlike ranks from parts
    → placed_before ranks (from + length parts) ≡ placed_before ranks from ++ gates_from from parts
placed_from ranks from [] alike = ap (placed_before ranks) (let e : from + 0 ≡ from = omega arith in e) ∙ sym (append-nil (placed_before ranks from))
placed_from ranks from (part ∷ more) alike =
    ap (placed_before ranks) (let e : from + suc (length more) ≡ from + 1 + length more = omega arith in e)
    ∙ placed_from ranks (from + 1) more (λ k one at.
    let moved : from + 1 + k ≡ from + suc k = omega arith in
    ap (λ n. if_placed (place_in ranks n) n) moved ∙ alike (suc k) one at ∙ ap (λ n. if_gate n one.body) (sym moved))
    ∙ ap (λ (l : List ℕ). l ++ gates_from (from + 1) more) (placed_next ranks from ∙ ap (λ (l : List ℕ). placed_before ranks from ++ l) here)
    ∙ append_assoc (placed_before ranks from) (if_gate from part.body) (gates_from (from + 1) more)
  where
    here : if_placed (place_in ranks from) from ≡ if_gate from part.body
    here =
        let same : from ≡ from + 0 = omega arith in
        ap (λ n. if_placed (place_in ranks n) n) same ∙ alike 0 part refl ∙ ap (λ n. if_gate n part.body) (sym same)

placed_none : (ranks : List ℕ) → placed_before ranks 0 ≡ []
unfolding placed_before
placed_none ranks = refl

pub placed_are_gates : (chip : LinkedChip) (ranks : List ℕ) → AreRanks chip ranks → placed_instances (core_of chip) ranks ≡ gates_of chip
placed_are_gates chip ranks ranked =
    ap (placed_before ranks) (core_count chip ∙ (let e : length chip.parts ≡ 0 + length chip.parts = omega arith in e))
    ∙ placed_from ranks 0 chip.parts (λ k part at.
    let same : 0 + k ≡ k = omega arith in
    ap (λ n. if_placed (place_in ranks n) n) same ∙ placed_is_gate chip ranks k part (ranked.each k (slice_get_within chip.parts k part at)) at
    ∙ ap (λ n. if_gate n part.body) (sym same))
    ∙ ap (λ (l : List ℕ). l ++ gates_of chip) (placed_none ranks)
