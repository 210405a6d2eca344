-- Names that are known by a set.
use Rattle.std.proofs.Common.{◌≡◌, ℕ, List, Bool, true, false, cond, [], ◌∷◌, ◌++◌, map, refl, sym, ◌∙◌, ap}
use Rattle.std.proofs.Common.{◌||◌}
use Rattle.std.specs.Str.{bytes_eq}
use Rattle.std.proofs.lemmas.Slice.Eq.{bytes_eq-Decides}
use Rattle.std.proofs.lemmas.List.{map-append}
use Rattle.std.proofs.lemmas.List.Folds.{list_any-append}
use Rattle.ca_names.specs.Names.{has_name, with_name}
use Rattle.ca_verilog.specs.code.Known.{Knows}

absorbed : (x y : Bool) → (y ≡ true → x ≡ true) → x ≡ (x || (y || false))
absorbed true y implies = refl
absorbed false true implies = implies refl
absorbed false false implies = refl

-- the set with a name knows the list with this name at its end
pub known_grown : (set listed : List (List ℕ)) (name : List ℕ) → Knows set listed → Knows (with_name name set) (listed ++ name ∷ [])
known_grown set listed name known other = by (has_name name set) refl ∙ ap (λ found. found || (bytes_eq other name || false)) (known other) ∙ sym (list_any-append (bytes_eq other) listed (name ∷ []))
  where
    by : (found : Bool) → has_name name set ≡ found → has_name other (cond found set (set ++ name ∷ [])) ≡ (has_name other set || (bytes_eq other name || false))
    by false is = list_any-append (bytes_eq other) set (name ∷ [])
    by true is = absorbed (has_name other set) (bytes_eq other name) (λ same. ap (λ n. has_name n set) ((bytes_eq-Decides other name).0 same) ∙ is)

-- the list grows by an item of the name that the set is given
pub known_with : {Item : Type 0} (name_of : Item → List ℕ) (set grown : List (List ℕ)) (items more : List Item) (item : Item) → Knows set (map name_of items)
    → grown ≡ with_name (name_of item) set → more ≡ items ++ item ∷ [] → Knows grown (map name_of more)
known_with name_of set grown items more item known grown_is more_is name =
    ap (has_name name) grown_is ∙ known_grown set (map name_of items) (name_of item) known name
    ∙ ap (has_name name) (sym (map-append name_of items (item ∷ [])) ∙ ap (map name_of) (sym more_is))
