-- Each choice of waves of the input pins has its entry.
use Rattle.std.proofs.Common.{◌≡◌, ℕ, zero, suc, ◌+◌, ◌-◌, ◌*◌, ◌/◌, ◌%◌, ◌^◌, ◌<◌, ◌≤◌, ◌==◌, inl, inr, Bool}
use Rattle.std.proofs.Common.{true, false, List, [], ◌∷◌, ◌++◌, length, refl, sym, ◌∙◌, ap, subst, arith}
use Rattle.std.proofs.Common.{length-append, map}
use Rattle.std.specs.List.{All}
use Rattle.std.specs.Prelude.{if◌then◌else◌}
use Rattle.std.proofs.lemmas.Bool.{cases_lt}
use Rattle.arrayvec.specs.ArrayVec.{ArrayVec}
use Rattle.std.proofs.lemmas.List.{map-append, append-nil, append_assoc, get_or_push, get_or_append_left}
use Rattle.std.proofs.Math.Nat.{pow-succ'}
use Rattle.std.proofs.lemmas.List.Elements.{All-head, All-tail, All-nil, All-cons, All-push}
use Rattle.ca_net.specs.declared.trit.Trit.{Trit}
use Rattle.ca_net.specs.declared.trit.Trit.TheVariants.{Zero, One, X}
use Rattle.ca_net.specs.declared.wave.Wave.{Wave}
use Rattle.ca_net.specs.Circuit.{Circuit}
use Rattle.ca_net.specs.Wave.{IsWave, pair_of}
use Rattle.ca_net.specs.Trit.{IsBelow}
use Rattle.ca_cell.specs.declared.raw.RawCell.{RawCell}
use Rattle.ca_cell.specs.Raw.{is_input, role_count}
use Rattle.ca_response.specs.Gives.{Gives}
use Rattle.ca_response.specs.Table.{code_of_values, code_of, place_of, entry_at, IsTableOf}
use Rattle.ca_response.specs.code.Decoding.{trit_of, coded_wave, pins_at}

-- a definite value is below itself alone
zero_below : (b : Trit) → IsBelow Zero b → b ≡ Zero
zero_below b below = elim below [ inl other ↦ absurd (let none : ⊥ = cc in none) | inr is ↦ sym is ]

one_below : (b : Trit) → IsBelow One b → b ≡ One
one_below b below = elim below [ inl other ↦ absurd (let none : ⊥ = cc in none) | inr is ↦ sym is ]

-- the wave of its own number
decoded : (first mid last : Trit) → IsBelow mid first → IsBelow mid last
    → coded_wave (code_of_values first mid last) ≡ record { first = first; mid = mid; last = last }
decoded first Zero last low high = rw (zero_below first low, zero_below last high) refl
decoded first One last low high = rw (one_below first low, one_below last high) refl
decoded Zero X Zero low high = refl
decoded Zero X One low high = refl
decoded Zero X X low high = refl
decoded One X Zero low high = refl
decoded One X One low high = refl
decoded One X X low high = refl
decoded X X Zero low high = refl
decoded X X One low high = refl
decoded X X X low high = refl

-- there are eleven
pub code_below : (first mid last : Trit) → code_of_values first mid last < 11
code_below Zero Zero Zero = omega arith
code_below Zero Zero One = omega arith
code_below Zero Zero X = omega arith
code_below Zero One Zero = omega arith
code_below Zero One One = omega arith
code_below Zero One X = omega arith
code_below Zero X Zero = omega arith
code_below Zero X One = omega arith
code_below Zero X X = omega arith
code_below One Zero Zero = omega arith
code_below One Zero One = omega arith
code_below One Zero X = omega arith
code_below One One Zero = omega arith
code_below One One One = omega arith
code_below One One X = omega arith
code_below One X Zero = omega arith
code_below One X One = omega arith
code_below One X X = omega arith
code_below X Zero Zero = omega arith
code_below X Zero One = omega arith
code_below X Zero X = omega arith
code_below X One Zero = omega arith
code_below X One One = omega arith
code_below X One X = omega arith
code_below X X Zero = omega arith
code_below X X One = omega arith
code_below X X X = omega arith

-- the waves that the entry at their place is for
pub pins_found : (pins : List Wave) → All IsWave pins → pins_at (length pins) (place_of pins) ≡ pins
unfolding pins_at
pins_found [] all = refl
pins_found (wave ∷ pins) all =
    let few = code_below wave.first wave.mid wave.last in
    let code : (code_of wave + 11 * place_of pins) % 11 ≡ code_of wave = omega arith in
    let rest : (code_of wave + 11 * place_of pins) / 11 ≡ place_of pins = omega arith in
    let here : coded_wave ((code_of wave + 11 * place_of pins) % 11) ≡ wave =
    ap coded_wave code ∙ decoded wave.first wave.mid wave.last (All-head IsWave wave pins all).below_first (All-head IsWave wave pins all).below_last in
    let more : pins_at (length pins) ((code_of wave + 11 * place_of pins) / 11) ≡ pins =
    ap (pins_at (length pins)) rest ∙ pins_found pins (All-tail IsWave wave pins all) in
    cc

-- the place is one of the table's
pub place_below : (pins : List Wave) → place_of pins < 11 ^ length pins
place_below [] = omega arith
place_below (wave ∷ pins) =
    let few = code_below wave.first wave.mid wave.last in
    let rest = place_below pins in
    let power : 11 ^ suc (length pins) ≡ 11 * 11 ^ length pins = pow-succ' 11 (length pins) in
    omega arith

-- `end` waves are found, and what is left gives the others
pub record IsDecodedTo (inputs place end rest : ℕ) (pins : List Wave) : Type 0 where
  pub count : length pins ≡ end
  pub within : end ≤ inputs
  pub found : pins ++ pins_at (inputs - end) rest ≡ pins_at inputs place

pub decoded_none : (inputs place : ℕ) → IsDecodedTo inputs place 0 place []
decoded_none inputs place = record { count = refl; within = omega arith; found = ap (λ k. pins_at k place) (let e : inputs - 0 ≡ inputs = omega arith in e) }

one_pin : (count rest : ℕ) → 0 < count → pins_at count rest ≡ coded_wave (rest % 11) ∷ pins_at (count - 1) (rest / 11)
unfolding pins_at
one_pin zero rest some = absurd (omega arith)
one_pin (suc count) rest some =
    let less : suc count - 1 ≡ count = omega arith in
    ap (λ k. coded_wave (rest % 11) ∷ pins_at k (rest / 11)) (sym less)

pub decoded_more : (inputs place end rest next : ℕ) (old new : List Wave) (wave : Wave) → IsDecodedTo inputs place end rest old
    → end < inputs → wave ≡ coded_wave (rest % 11) → next ≡ rest / 11 → new ≡ old ++ wave ∷ [] → IsDecodedTo inputs place (end + 1) next new
decoded_more inputs place end rest next old new wave so_far less wave_is next_is is = record {
  count = ap length is ∙ length-append old (wave ∷ []) ∙ (let count = so_far.count in omega arith);
  within = omega arith;
  found = ap (λ list. list ++ pins_at (inputs - (end + 1)) next) is ∙ append_assoc old (wave ∷ []) (pins_at (inputs - (end + 1)) next)
      ∙ ap (λ list. old ++ list) (here ∙ sym (one_pin (inputs - end) rest (omega arith))) ∙ so_far.found;
}
  where
    here : wave ∷ pins_at (inputs - (end + 1)) next ≡ coded_wave (rest % 11) ∷ pins_at ((inputs - end) - 1) (rest / 11)
    here = ap (λ w. w ∷ pins_at (inputs - (end + 1)) next) wave_is
        ∙ ap (λ k. coded_wave (rest % 11) ∷ pins_at (inputs - (end + 1)) k) next_is
        ∙ ap (λ k. coded_wave (rest % 11) ∷ pins_at k (rest / 11)) (let e : inputs - (end + 1) ≡ (inputs - end) - 1 = omega arith in e)

pub decoded_all : (inputs place end rest : ℕ) (pins : List Wave) → IsDecodedTo inputs place end rest pins → inputs ≤ end → pins ≡ pins_at inputs place
unfolding pins_at
decoded_all inputs place end rest pins so_far all =
    let within = so_far.within in
    let none : inputs - end ≡ 0 = omega arith in
    sym (append-nil pins) ∙ ap (λ k. pins ++ pins_at k rest) (sym none) ∙ so_far.found

-- the first `end` entries are what the network gives
pub record IsBuiltTo (raw : RawCell) (net : Circuit) (end : ℕ) (table : List (List Wave)) : Type 0 where
  pub count : length table ≡ end
  pub each : (place : ℕ) → place < end → Gives raw net (pins_at (role_count is_input raw.pins) place) (entry_at table place)
  pub waves : All (All IsWave) table

-- the waves of input pins that an entry is for are waves
coded_is_wave : (code : ℕ) → IsWave (coded_wave code)
coded_is_wave code = at (code == 0) (code == 1)
  where
    at : (zeroth first : Bool) → IsWave (if zeroth then pair_of Zero Zero else (if first then pair_of One One
        else record { first = trit_of ((code - 2) / 3); mid = X; last = trit_of ((code - 2) % 3) }))
    at true first = record { below_first = inr refl; below_last = inr refl }
    at false true = record { below_first = inr refl; below_last = inr refl }
    at false false = record { below_first = inl refl; below_last = inl refl }

pub pins_are_waves : (count place : ℕ) → All IsWave (pins_at count place)
unfolding pins_at
pins_are_waves zero place = All-nil IsWave
pins_are_waves (suc count) place = All-cons IsWave _ _ (coded_is_wave (place % 11)) (pins_are_waves count (place / 11))

pub pins_count : (count place : ℕ) → length (pins_at count place) ≡ count
unfolding pins_at
pins_count zero place = refl
pins_count (suc count) place = ap suc (pins_count count (place / 11))

pub built_none : (raw : RawCell) (net : Circuit) → IsBuiltTo raw net 0 []
built_none raw net = record { count = refl; each = λ place less. absurd (omega arith); waves = All-nil (All IsWave) }

pub built_more : (raw : RawCell) (net : Circuit) (end : ℕ) (old new : List (List Wave)) (pins outputs : List Wave) → IsBuiltTo raw net end old
    → pins ≡ pins_at (role_count is_input raw.pins) end → Gives raw net pins outputs → All IsWave outputs → new ≡ old ++ outputs ∷ [] → IsBuiltTo raw net (end + 1) new
built_more raw net end old new pins outputs so_far pins_are gives waves is = record {
  count = ap length is ∙ length-append old (outputs ∷ []) ∙ (let count = so_far.count in omega arith);
  each = λ place less. let count = so_far.count in elim (cases_lt place end) [
    | inl low ↦ subst (Gives raw net (pins_at (role_count is_input raw.pins) place))
        (sym (ap (λ t. entry_at t place) is ∙ get_or_append_left old (outputs ∷ []) [] place (omega arith))) (so_far.each place low)
    | inr high ↦
        let last : place ≡ length old = omega arith in
        let here : entry_at new place ≡ outputs = ap (λ t. entry_at t place) is ∙ ap (entry_at (old ++ outputs ∷ [])) last ∙ get_or_push old outputs [] (length old) refl in
        subst (Gives raw net (pins_at (role_count is_input raw.pins) place)) (sym here)
        (subst (λ p. Gives raw net p outputs) (pins_are ∙ ap (pins_at (role_count is_input raw.pins)) (let e : end ≡ place = omega arith in e)) gives)
  ];
  waves = subst (All (All IsWave)) (sym is) (All-push (All IsWave) old outputs so_far.waves waves);
}

-- one more entry
pub entries_pushed : (old new : List (ArrayVec Wave)) (entry : ArrayVec Wave) → new ≡ old ++ entry ∷ []
    → map (λ entry. entry.items) new ≡ map (λ entry. entry.items) old ++ entry.items ∷ []
entries_pushed old new entry is = ap (map (λ (entry : ArrayVec Wave). entry.items)) is ∙ map-append (λ (entry : ArrayVec Wave). entry.items) old (entry ∷ [])

-- all entries are built
pub built_all : (raw : RawCell) (net : Circuit) (end : ℕ) (table : List (List Wave)) → role_count is_input raw.pins ≤ 3
    → end ≡ 11 ^ role_count is_input raw.pins → IsBuiltTo raw net end table → IsTableOf raw net table
built_all raw net end table few end_is built = record {
  few = few;
  count = built.count ∙ end_is;
  each = λ pins count waves.
      let at : pins_at (role_count is_input raw.pins) (place_of pins) ≡ pins = ap (λ k. pins_at k (place_of pins)) (sym count) ∙ pins_found pins waves in
      subst (λ p. Gives raw net p (entry_at table (place_of pins))) at
      (built.each (place_of pins) (subst (λ k. place_of pins < k) (ap (λ k. 11 ^ k) count ∙ sym end_is) (place_below pins)));
  waves = built.waves;
}
