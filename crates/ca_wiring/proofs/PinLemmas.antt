-- The first pins that are reported are the first.
use Rattle.std.proofs.Common.{◌≡◌, ℕ, zero, suc, ◌+◌, ◌<◌, ◌≤◌, List, [], ◌∷◌, ◌++◌, Bool, true, false}
use Rattle.std.proofs.Common.{length, map, refl, sym, ◌∙◌, ap, subst, arith, ◌||◌, true≢false, cond, get_or}
use Rattle.std.proofs.Common.{inl, inr}
use Rattle.std.specs.Prelude.{Option, Some, None, is_none, slice_get, take, nat_lt, if◌then◌else◌, not, ◌&&◌}
use Rattle.std.specs.Str.{bytes_eq}
use Rattle.std.specs.List.{position_or_len, IsDistinct, AllByRecursion}
use Rattle.std.proofs.lemmas.List.Folds.{list_any-append}
use Rattle.std.proofs.lemmas.Slice.Eq.{bytes_eq-Decides}
use Rattle.std.proofs.lemmas.Bool.{ltb-true, ltb-false}
use Rattle.std.proofs.lemmas.Option.{slice_get_within, slice_get_cases, slice_get-get_or}
use Rattle.std.proofs.lemmas.List.{map-append, length-map}
use Rattle.ca_names.specs.Names.{has_name, with_name, place_of}
use Rattle.ca_cell.specs.declared.raw.Role.{Role}
use Rattle.ca_cell.specs.declared.raw.Role.TheVariants.{Input, Output, Power, Ground}
use Rattle.ca_cell.specs.declared.raw.RawPin.{RawPin}
use Rattle.ca_cell.specs.Raw.{is_input, is_output}
use Rattle.ca_verilog.specs.declared.raw.RawBit.{RawBit}
use Rattle.ca_verilog.specs.declared.raw.RawUse.{RawUse}
use Rattle.ca_wiring.specs.declared.scan_row.ScanRow.{ScanRow}
use Rattle.ca_wiring.specs.Wiring.{Meaning, input_names, names_with, bit_on, row_of}
use Rattle.ca_wiring.specs.InstanceRules.{pin_names, HasStrayPin}
use Rattle.ca_wiring.specs.code.Pins.{first_open, first_stray, has_pin, ReportsStray, ReportsOpen, NoStray}
use Rattle.ca_wiring.specs.code.Pins.{IsFirstStray}
use Rattle.ca_linked.proofs.DriverLemmas.{some_inj}
use Rattle.ca_linked.proofs.EndLemmas.{take_more}

or_assoc : (a b c : Bool) → (a || (b || c)) ≡ ((a || b) || c)
or_assoc true b c = refl
or_assoc false b c = refl

swap_or : (a b c : Bool) → (a || (b || c)) ≡ (b || (a || c))
swap_or true true c = refl
swap_or true false c = refl
swap_or false true c = refl
swap_or false false c = refl

has_pin-any : (pins : List RawPin) (name : List ℕ)
    → has_pin pins name ≡ (has_name name (names_with is_input pins) || has_name name (names_with is_output pins))
has_pin-any [] name = refl
has_pin-any (pin ∷ pins) name = by (has_pin-any pins name) pin.role
  where
    ins : List (List ℕ)
    ins = names_with is_input pins

    outs : List (List ℕ)
    outs = names_with is_output pins

    same : Bool
    same = bytes_eq name pin.name

    by : has_pin pins name ≡ (has_name name ins || has_name name outs) → (role : Role) → (((is_input role || is_output role) && same) || has_pin pins name)
        ≡ (has_name name (if is_input role then pin.name ∷ ins else ins) || has_name name (if is_output role then pin.name ∷ outs else outs))
    by rest Input = ap (λ b. same || b) rest ∙ or_assoc same (has_name name ins) (has_name name outs)
    by rest Output = ap (λ b. same || b) rest ∙ swap_or same (has_name name ins) (has_name name outs)
    by rest Power = rest
    by rest Ground = rest

pub has_pin-names : (pins : List RawPin) (name : List ℕ)
    → has_pin pins name ≡ has_name name (names_with is_input pins ++ names_with is_output pins)
has_pin-names pins name =
    has_pin-any pins name ∙ sym (list_any-append (bytes_eq name) (names_with is_input pins) (names_with is_output pins))

module _ (meaning : Meaning) where
  names : List (List ℕ)
  names = pin_names meaning

  -- a stray pin after the first connection
  following : (used : RawUse) (more : List RawUse) (k : ℕ) (pin : List ℕ) → HasStrayPin meaning more k pin
      → HasStrayPin meaning (used ∷ more) (suc k) pin
  following used more k pin has = record { used = has.used; at = has.at; named = has.named; stray = has.stray }

  before : (used : RawUse) (more : List RawUse) (k : ℕ) (pin : List ℕ) → HasStrayPin meaning (used ∷ more) (suc k) pin
      → HasStrayPin meaning more k pin
  before used more k pin has = record { used = has.used; at = has.at; named = has.named; stray = has.stray }

  -- the first connection is to a pin of the cell
  not_first : (used : RawUse) (more : List RawUse) (pin : List ℕ) → has_name used.pin (pin_names meaning) ≡ true
      → HasStrayPin meaning (used ∷ more) 0 pin → ⊥
  not_first used more pin known has =
      let at : Some used ≡ Some has.used = has.at in
      let same : used ≡ has.used = cc in
      true≢false (sym known ∙ ap (λ (n : List ℕ). has_name n (pin_names meaning)) (ap (λ (u : RawUse). u.pin) same ∙ has.named) ∙ has.stray)

  pub reports_stray : (uses : List RawUse) → ReportsStray meaning uses (first_stray (pin_names meaning) uses)
  reports_stray [] = λ place pin has. absurd (let lt = slice_get_within [] place has.used has.at in omega (arith, lt))
  reports_stray (used ∷ more) = by (has_name used.pin (pin_names meaning)) refl (first_stray (pin_names meaning) more) (reports_stray more)
    where
      no_stray : has_name used.pin (pin_names meaning) ≡ true → NoStray meaning more → NoStray meaning (used ∷ more)
      no_stray known none zero pin has = not_first used more pin known has
      no_stray known none (suc k) pin has = none k pin (before used more k pin has)

      later : has_name used.pin (pin_names meaning) ≡ true → (first : List ℕ) → IsFirstStray meaning more first
          → (k : ℕ) (other : List ℕ) → (reported : IsFirstStray meaning more first) → k < suc reported.place → HasStrayPin meaning (used ∷ more) k other → ⊥
      later known first is zero other reported lt has = not_first used more other known has
      later known first is (suc k) other reported lt has = reported.none_before k other (omega (arith, lt)) (before used more k other has)

      by : (known : Bool) → has_name used.pin (pin_names meaning) ≡ known → (rest : Option (List ℕ)) → ReportsStray meaning more rest
          → ReportsStray meaning (used ∷ more) (if has_name used.pin (pin_names meaning) then rest else Some used.pin)
      by true e None reported =
          subst (λ b. ReportsStray meaning (used ∷ more) (if b then None else Some used.pin)) (sym e) (no_stray e reported)
      by true e (Some first) reported =
          subst (λ b. ReportsStray meaning (used ∷ more) (if b then Some first else Some used.pin)) (sym e) (record {
            place = suc reported.place;
            here = following used more reported.place first reported.here;
            none_before = λ k other lt has. later e first reported k other reported lt has;
          })
      by false e rest reported =
          subst (λ b. ReportsStray meaning (used ∷ more) (if b then rest else Some used.pin)) (sym e) (record {
            place = 0;
            here = record { used = used; at = refl; named = refl; stray = e };
            none_before = λ k other lt has. absurd (omega (arith, lt));
          })

module _ (uses : List RawUse) where
  -- the first open pin among these names, and its place; or none is open
  abbrev ReportsAmong : List (List ℕ) → Option (List ℕ) → Type 0
  ReportsAmong names (Some pin) = (place : ℕ) × (slice_get names place ≡ Some pin) × (bit_on uses pin ≡ None)
      × ((k : ℕ) (other : List ℕ) → k < place → slice_get names k ≡ Some other → bit_on uses other ≡ None → ⊥)
  ReportsAmong names None = (k : ℕ) (other : List ℕ) → slice_get names k ≡ Some other → bit_on uses other ≡ None → ⊥

  among : (names : List (List ℕ)) → ReportsAmong names (first_open uses names)
  among [] = λ k other at is. absurd (let lt = slice_get_within [] k other at in omega (arith, lt))
  among (name ∷ more) = by (bit_on uses name) refl (first_open uses more) (among more)
    where
      none_at : (bit_on uses name ≡ None → ⊥) → ReportsAmong more None → ReportsAmong (name ∷ more) None
      none_at closed none zero other at is = closed (subst (λ n. bit_on uses n ≡ None) (sym (some_inj name other at)) is)
      none_at closed none (suc k) other at is = none k other at is

      earlier : (bit_on uses name ≡ None → ⊥) → (pin : List ℕ) (reported : ReportsAmong more (Some pin)) (k : ℕ) (other : List ℕ) → k < suc reported.0
          → slice_get (name ∷ more) k ≡ Some other → bit_on uses other ≡ None → ⊥
      earlier closed pin reported zero other lt at is = closed (subst (λ n. bit_on uses n ≡ None) (sym (some_inj name other at)) is)
      earlier closed pin reported (suc k) other lt at is = reported.3 k other (omega (arith, lt)) at is

      by : (bit : Option RawBit) → bit_on uses name ≡ bit → (rest : Option (List ℕ)) → ReportsAmong more rest
          → ReportsAmong (name ∷ more) (if is_none (bit_on uses name) then Some name else rest)
      by None e rest reported = subst (λ b. ReportsAmong (name ∷ more) (if is_none b then Some name else rest)) (sym e)
          (0, refl, e, λ k other lt at is. absurd (omega (arith, lt)))
      by (Some bit) e None reported = subst (λ b. ReportsAmong (name ∷ more) (if is_none b then Some name else None)) (sym e)
          (none_at (λ is. let clash : Some bit ≡ None = sym e ∙ is in cc) reported)
      by (Some bit) e (Some pin) reported = subst (λ b. ReportsAmong (name ∷ more) (if is_none b then Some name else Some pin)) (sym e)
          (suc reported.0, reported.1, reported.2, earlier (λ is. let clash : Some bit ≡ None = sym e ∙ is in cc) pin reported)

  pub reports_open : (meaning : Meaning) → ReportsOpen meaning uses (first_open uses (input_names meaning))
  reports_open meaning = by (first_open uses (input_names meaning)) (among (input_names meaning))
    where
      by : (reported : Option (List ℕ)) → ReportsAmong (input_names meaning) reported → ReportsOpen meaning uses reported
      by None none = λ place pin lacks. none place pin lacks.at lacks.is_open
      by (Some pin) first = record {
        place = first.0;
        here = record { at = first.1; is_open = first.2 };
        none_before = λ k other lt lacks. first.3 k other lt lacks.at lacks.is_open;
      }

-- what the place of a name says of the first place at which it is
place_is : (name : List ℕ) (names : List (List ℕ)) (place : ℕ) → place_of name names ≡ Some place → position_or_len (bytes_eq name) names ≡ place
place_is name names place reported = by (nat_lt (position_or_len (bytes_eq name) names) (length names)) reported
  where
    by : (less : Bool) → cond less (Some (position_or_len (bytes_eq name) names)) None ≡ Some place → position_or_len (bytes_eq name) names ≡ place
    by true e = let same : position_or_len (bytes_eq name) names ≡ place = cc in same
    by false e = let clash : None ≡ Some place = e in cc

place_within : (name : List ℕ) (names : List (List ℕ)) (place : ℕ) → place_of name names ≡ Some place → (rows : List ScanRow) → length names ≡ length rows
    → place < length rows
place_within name names place reported rows same = by (nat_lt (position_or_len (bytes_eq name) names) (length names)) refl reported
  where
    by : (less : Bool) → nat_lt (position_or_len (bytes_eq name) names) (length names) ≡ less
        → cond less (Some (position_or_len (bytes_eq name) names)) None ≡ Some place → place < length rows
    by true less e =
        let equal : position_or_len (bytes_eq name) names ≡ place = cc in
        let lt = ltb-true (position_or_len (bytes_eq name) names) (length names) less in
        omega (arith, equal, lt, same)
    by false less e = let clash : None ≡ Some place = e in cc

place_past : (name : List ℕ) (names : List (List ℕ)) → place_of name names ≡ None → length names ≤ position_or_len (bytes_eq name) names
place_past name names reported = by (nat_lt (position_or_len (bytes_eq name) names) (length names)) refl reported
  where
    by : (less : Bool) → nat_lt (position_or_len (bytes_eq name) names) (length names) ≡ less
        → cond less (Some (position_or_len (bytes_eq name) names)) None ≡ None → length names ≤ position_or_len (bytes_eq name) names
    by true less e = let clash : Some (position_or_len (bytes_eq name) names) ≡ None = e in cc
    by false less e = let ge = ltb-false (position_or_len (bytes_eq name) names) (length names) less in omega arith

get_past : {X : Type 0} (xs : List X) (k : ℕ) → length xs ≤ k → slice_get xs k ≡ None
get_past xs k le = elim (slice_get_cases xs k).1 [
  | inl there ↦ absurd (let lt = slice_get_within xs k there.0 there.2 in omega (arith, lt, le))
  | inr past ↦ past.1
]

-- the row of a cell is where its name is among the cells
pub row_at : (scan : List ScanRow) (cell : List ℕ)
    → row_of scan cell ≡ slice_get scan (position_or_len (bytes_eq cell) (map (λ (row : ScanRow). row.cell) scan))
row_at [] cell = refl
row_at (row ∷ more) cell = by (row_at more cell) (bytes_eq cell row.cell)
  where
    place : ℕ
    place = position_or_len (bytes_eq cell) (map (λ (row : ScanRow). row.cell) more)

    by : row_of more cell ≡ slice_get more place → (same : Bool) → (if same then Some row else row_of more cell)
        ≡ slice_get (row ∷ more) (if not same then 1 + place else 0)
    by rest true = refl
    by rest false = rest ∙ ap (slice_get (row ∷ more)) (let s : suc place ≡ 1 + place = omega arith in s)

at_of : {X : Type 0} (P : X → Type 0) (xs : List X) (k : ℕ) (x : X) → AllByRecursion P xs → slice_get xs k ≡ Some x → P x
at_of P [] k x all at = absurd (let lt = slice_get_within [] k x at in omega (arith, lt))
at_of P (first ∷ xs) zero x all at = let same : first ≡ x = cc in subst P same all.0
at_of P (first ∷ xs) (suc k) x all at = at_of P xs k x all.1 at

-- what is at a place of a list, in its image
map_at : {X Y : Type 0} (f : X → Y) (xs : List X) (k : ℕ) (x : X) → slice_get xs k ≡ Some x → slice_get (map f xs) k ≡ Some (f x)
map_at f [] k x at = absurd (let lt = slice_get_within [] k x at in omega (arith, lt))
map_at f (first ∷ xs) zero x at = let same : first ≡ x = cc in ap (λ y. Some (f y)) same
map_at f (first ∷ xs) (suc k) x at = map_at f xs k x at

map-take : {X Y : Type 0} (f : X → Y) (k : ℕ) (xs : List X) → map f (take k xs) ≡ take k (map f xs)
map-take f zero xs = refl
map-take f (suc k) [] = refl
map-take f (suc k) (x ∷ xs) = ap (λ l. f x ∷ l) (map-take f k xs)

-- a name of different names isn't before its place
pub new_name : (names : List (List ℕ)) → IsDistinct bytes_eq names → (k : ℕ) (name : List ℕ) → slice_get names k ≡ Some name
    → has_name name (take k names) ≡ false
unfolding IsDistinct
new_name [] distinct k name at = absurd (let lt = slice_get_within [] k name at in omega (arith, lt))
new_name (first ∷ more) distinct zero name at = refl
new_name (first ∷ more) distinct (suc k) name at =
    by (new_name more distinct.1 k name at) (bytes_eq name first) refl
  where
    by : has_name name (take k more) ≡ false → (same : Bool) → bytes_eq name first ≡ same → (bytes_eq name first || has_name name (take k more)) ≡ false
    by rest true e =
        let equal : name ≡ first = (bytes_eq-Decides name first).0 e in
        let other : bytes_eq first name ≡ false = at_of (λ y. bytes_eq first y ≡ false) more k name distinct.0 at in
        absurd (true≢false (sym ((bytes_eq-Decides first name).1 (sym equal)) ∙ other))
    by rest false e = ap (λ b. b || has_name name (take k more)) e ∙ rest

-- the names of the first rows, with the next
pub cells_more : (scan : List ScanRow) → IsDistinct bytes_eq (map (λ (row : ScanRow). row.cell) scan) → (k : ℕ) (row : ScanRow) → slice_get scan k ≡ Some row
    → with_name row.cell (map (λ (r : ScanRow). r.cell) (take k scan)) ≡ map (λ (r : ScanRow). r.cell) (take (k + 1) scan)
cells_more scan distinct k row at =
    ap (λ b. if b then map cell (take k scan) else map cell (take k scan) ++ row.cell ∷ []) new
    ∙ sym (map-append cell (take k scan) (row ∷ [])) ∙ ap (map cell) (sym (take_more scan k row at))
  where
    cell : ScanRow → List ℕ
    cell r = r.cell

    new : has_name row.cell (map cell (take k scan)) ≡ false
    new = ap (has_name row.cell) (map-take cell k scan) ∙ new_name (map cell scan) distinct k row.cell (map_at cell scan k row at)

-- the row that is found by its place, or none
pub row_reported : (scan : List ScanRow) (cell : List ℕ) (place : ℕ) (row : ScanRow)
    → place_of cell (map (λ (r : ScanRow). r.cell) scan) ≡ Some place → row ≡ get_or scan place row → Some row ≡ row_of scan cell
row_reported scan cell place row reported at =
    ap Some at ∙ sym (slice_get-get_or scan place row (place_within cell (map (λ (r : ScanRow). r.cell) scan) place reported scan (length-map scan (λ (r : ScanRow). r.cell))))
    ∙ ap (slice_get scan) (sym (place_is cell (map (λ (r : ScanRow). r.cell) scan) place reported)) ∙ sym (row_at scan cell)

pub no_row : (scan : List ScanRow) (cell : List ℕ) → place_of cell (map (λ (r : ScanRow). r.cell) scan) ≡ None → None ≡ row_of scan cell
no_row scan cell reported =
    sym (get_past scan (position_or_len (bytes_eq cell) (map (λ (r : ScanRow). r.cell) scan))
    (let le = place_past cell (map (λ (r : ScanRow). r.cell) scan) reported in let len = length-map scan (λ (r : ScanRow). r.cell) in omega (arith, le, len)))
    ∙ sym (row_at scan cell)
