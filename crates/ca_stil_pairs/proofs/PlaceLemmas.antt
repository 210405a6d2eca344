-- Values by place, one more at a time.
use Rattle.std.proofs.Common.{◌≡◌, ℕ, ◌+◌, ◌<◌, List, [], ◌∷◌, ◌++◌, length, take, drop, get_or, ap, sym}
use Rattle.std.proofs.Common.{◌∙◌, arith, append_assoc, length-drop}
use Rattle.std.specs.Prelude.{Some, slice_get}
use Rattle.std.proofs.lemmas.List.{take_more, map-append, get_or-drop}
use Rattle.std.proofs.lemmas.Option.{get_or_from_slice_get, slice_get_within}
use Rattle.ca_stil.specs.Chip.{part}
use Rattle.ca_stil_pairs.specs.code.Places.{sited}

part_more : {Value : Type 0} (from k : ℕ) (values : List Value) (value : Value) → slice_get values (from + k) ≡ Some value
    → part from (k + 1) values ≡ part from k values ++ value ∷ []
part_more from k values value is =
    let within = slice_get_within values (from + k) value is in
    let inside : k < length (drop from values) = omega (arith, within, length-drop from values) in
    take_more (drop from values) k value inside
    ∙ ap (λ (one : _). take k (drop from values) ++ one ∷ [])
    (get_or-drop from values k value ∙ get_or_from_slice_get values (from + k) value value is)

-- a value is put after those of a part
pub part_pushed : {Value : Type 0} (old list new : List Value) (from k : ℕ) (values : List Value) (value : Value)
    → list ≡ old ++ part from k values → slice_get values (from + k) ≡ Some value → new ≡ list ++ value ∷ []
    → new ≡ old ++ part from (k + 1) values
part_pushed old list new from k values value so_far is pushed =
    pushed ∙ ap (λ (given : List _). given ++ value ∷ []) so_far
    ∙ append_assoc old (part from k values) (value ∷ [])
    ∙ ap (λ (given : List _). old ++ given) (sym (part_more from k values value is))

sited_more : {Value : Type 0} (other : Value) (from k : ℕ) (sites : List ℕ) (values : List Value) (value : Value)
    → k < length sites → slice_get values (from + get_or sites k 0) ≡ Some value
    → sited other from (take (k + 1) sites) values ≡ sited other from (take k sites) values ++ value ∷ []
sited_more other from k sites values value below is =
    ap (λ (given : List ℕ). sited other from given values) (take_more sites k 0 below)
    ∙ map-append (λ (site : ℕ). get_or values (from + site) other) (take k sites) (get_or sites k 0 ∷ [])
    ∙ ap (λ (one : _). sited other from (take k sites) values ++ one ∷ [])
    (get_or_from_slice_get values (from + get_or sites k 0) value other is)

-- a value is put after those of the first sites
pub sited_pushed : {Value : Type 0} (other : Value) (old list new : List Value) (from k : ℕ) (sites : List ℕ)
    (values : List Value) (value : Value)
    → list ≡ old ++ sited other from (take k sites) values → k < length sites
    → slice_get values (from + get_or sites k 0) ≡ Some value → new ≡ list ++ value ∷ []
    → new ≡ old ++ sited other from (take (k + 1) sites) values
sited_pushed other old list new from k sites values value so_far below is pushed =
    pushed ∙ ap (λ (given : List _). given ++ value ∷ []) so_far
    ∙ append_assoc old (sited other from (take k sites) values) (value ∷ [])
    ∙ ap (λ (given : List _). old ++ given) (sym (sited_more other from k sites values value below is))
