-- A loop over items up to a closing token.
use Rattle.std.proofs.Common.{◌≡◌, ℕ, ◌+◌, ◌<◌, true, Bool, List, [], ◌∷◌, ◌++◌, length, map, codes}
use Rattle.std.proofs.Common.{refl, sym, ap, ◌∙◌, arith, append_assoc, length-append, subst, false}
use Rattle.std.specs.Str.{bytes_eq}
use Rattle.std.proofs.lemmas.List.{append-nil}
use Rattle.std.proofs.lemmas.Slice.Eq.{bytes_eq-Decides}
use Rattle.ca_stil_form.specs.Form.{Token, Outcome, Got, Stuck, mapped, with_first, read_until, read_items}
use Rattle.ca_stil_form.specs.code.Form.{BeginsOther}
use Rattle.ca_stil_form.specs.Grammar.{Form}
use Rattle.ca_stil_form.specs.code.Grammar.{IsExactForm}
use Rattle.ca_stil_form.specs.Frame.{Frame}
use Rattle.ca_stil_form.specs.Pattern.{pair_form}
use Rattle.ca_stil_form.specs.Whole.{signal_form}
use Rattle.ca_stil_form.proofs.StilLemmas.{pair_exact, signal_exact}
use Rattle.ca_stil_read.specs.declared.stop.Stop.{Stop}
use Rattle.ca_stil_read.specs.declared.stop.Stop.TheVariants as stop
use Rattle.ca_stil_read.specs.Plan.{flat_pair, read_pair}
use Rattle.ca_stil_read.specs.Whole.{read_pairs}
use Rattle.ca_stil_read.specs.code.Views.{IsStopped}
use Rattle.ca_stil_read.proofs.ItemSteps.{item_shorter, items_step, items_stop, items_close}
use Rattle.ca_stil_read.proofs.PlanLemmas.{pair_flat}

-- how items are read, and one of them
pub record IsLoop {Item : Type 0} (close : Token) (one : ℕ → List Token → Outcome Item) (all : ℕ → List Token → Outcome (List Item)) : Type 0 where
  pub early : (number : ℕ) → all number [] ≡ Stuck []
  pub closes : (number : ℕ) (token : Token) (rest : List Token) → bytes_eq close token ≡ true → all number (token ∷ rest) ≡ Got [] rest
  pub stops : (number : ℕ) (tokens rest : List Token) → BeginsOther close tokens → one number tokens ≡ Stuck rest → all number tokens ≡ Stuck rest
  pub steps : (number : ℕ) (tokens rest : List Token) (item : Item) → BeginsOther close tokens → one number tokens ≡ Got item rest
      → all number tokens ≡ mapped (λ others. item ∷ others) (all (number + 1) rest)
  pub shorter : (number : ℕ) (tokens rest : List Token) (item : Item) → one number tokens ≡ Got item rest → length rest < length tokens

-- the exits of such a loop; `seen` are the items that were read
pub loop_early : {Item : Type 0} {close : Token} {one : ℕ → List Token → Outcome Item} {all : ℕ → List Token → Outcome (List Item)}
    → IsLoop close one all → (start : Outcome (List Item)) (seen : List Item) (number : ℕ) (tokens : List Token)
    → start ≡ mapped (λ others. seen ++ others) (all number tokens) → tokens ≡ [] → start ≡ Stuck tokens
loop_early {all = all} is start seen number tokens so_far none =
    so_far ∙ ap (λ (given : List Token). mapped (λ others. seen ++ others) (all number given)) none
    ∙ ap (mapped (λ others. seen ++ others)) (is.early number) ∙ ap (λ (given : List Token). Stuck given) (sym none)

pub loop_close : {Item : Type 0} {close : Token} {one : ℕ → List Token → Outcome Item} {all : ℕ → List Token → Outcome (List Item)}
    → IsLoop close one all → (start : Outcome (List Item)) (seen : List Item) (number : ℕ) (tokens : List Token) (token : Token) (rest : List Token)
    → start ≡ mapped (λ others. seen ++ others) (all number tokens) → tokens ≡ token ∷ rest → bytes_eq close token ≡ true → start ≡ Got seen rest
loop_close {all = all} is start seen number tokens token rest so_far begins closes =
    so_far ∙ ap (λ (given : List Token). mapped (λ others. seen ++ others) (all number given)) begins
    ∙ ap (mapped (λ others. seen ++ others)) (is.closes number token rest closes)
    ∙ ap (λ (given : List _). Got given rest) (append-nil seen)

pub loop_stop : {Item : Type 0} {close : Token} {one : ℕ → List Token → Outcome Item} {all : ℕ → List Token → Outcome (List Item)}
    → IsLoop close one all → (why : Stop) (start : Outcome (List Item)) (seen : List Item) (number : ℕ) (tokens : List Token)
    → start ≡ mapped (λ others. seen ++ others) (all number tokens) → BeginsOther close tokens → IsStopped why (one number tokens) → IsStopped why start
loop_stop is (stop.Stuck rest) start seen number tokens so_far begins stopped =
    so_far ∙ ap (mapped (λ others. seen ++ others)) (is.stops number tokens _ begins stopped)
loop_stop is stop.NoMemory start seen number tokens so_far begins stopped = tt

pub loop_step : {Item : Type 0} {close : Token} {one : ℕ → List Token → Outcome Item} {all : ℕ → List Token → Outcome (List Item)}
    → IsLoop close one all → (start : Outcome (List Item)) (seen : List Item) (number : ℕ) (tokens rest : List Token) (item : Item)
    → start ≡ mapped (λ others. seen ++ others) (all number tokens) → BeginsOther close tokens → one number tokens ≡ Got item rest
    → start ≡ mapped (λ others. (seen ++ item ∷ []) ++ others) (all (number + 1) rest)
loop_step {Item} {all = all} is start seen number tokens rest item so_far begins read =
    so_far ∙ ap (mapped (λ others. seen ++ others)) (is.steps number tokens rest item begins read) ∙ by (all (number + 1) rest)
  where
    by : (given : Outcome (List Item)) → mapped (λ others. seen ++ others) (mapped (λ others. item ∷ others) given)
        ≡ mapped (λ others. (seen ++ item ∷ []) ++ others) given
    by (Got others after) = ap (λ (list : List Item). Got list after) (sym (append_assoc seen (item ∷ []) others))
    by (Stuck after) = refl

-- the items of a form, seen in some way
items_loop : {Item Seen : Type 0} (close : Token) (item : ℕ → Form Item) (view : Item → Seen)
    → ((number : ℕ) → IsExactForm (item number))
    → ((number : ℕ) (value : Item) → (item number).allowed value ≡ true → BeginsOther close ((item number).written value))
    → IsLoop close (λ number tokens. mapped view ((item number).read tokens))
    (λ number tokens. mapped (map view) (read_items close (λ number. (item number).read) number tokens))
unfolding read_until
items_loop {Item} {Seen} close item view exact opens = record {
  early = λ number. refl;
  closes = λ number token rest closes. ap (mapped (map view)) (items_close close item number (token ∷ rest) token rest refl closes);
  stops = λ number tokens rest begins read. by_stop number tokens rest begins ((item number).read tokens) refl read;
  steps = λ number tokens rest value begins read. by_step number tokens rest value begins ((item number).read tokens) refl read;
  shorter = λ number tokens rest value read. by_shorter number tokens rest value ((item number).read tokens) refl read;
}
  where
    by_stop : (number : ℕ) (tokens rest : List Token) → BeginsOther close tokens → (given : Outcome Item) → (item number).read tokens ≡ given
        → mapped view given ≡ Stuck rest
        → mapped (map view) (read_items close (λ number. (item number).read) number tokens) ≡ Stuck rest
    by_stop number tokens rest begins (Got value after) is read = absurd cc
    by_stop number tokens rest begins (Stuck after) is read =
        ap (mapped (map view)) (items_stop close item number tokens after begins is) ∙ cc

    again : (value : Item) (given : Outcome (List Item))
        → mapped (map view) (mapped (λ (both : Item × List Item). both.0 ∷ both.1) (with_first value given))
        ≡ mapped (λ others. view value ∷ others) (mapped (map view) given)
    again value (Got others after) = refl
    again value (Stuck after) = refl

    by_step : (number : ℕ) (tokens rest : List Token) (value : Seen) → BeginsOther close tokens → (given : Outcome Item) → (item number).read tokens ≡ given
        → mapped view given ≡ Got value rest
        → mapped (map view) (read_items close (λ number. (item number).read) number tokens)
        ≡ mapped (λ others. value ∷ others) (mapped (map view) (read_items close (λ number. (item number).read) (number + 1) rest))
    by_step number tokens rest value begins (Got one after) is read =
        let same_value : view one ≡ value = cc in
        let same_rest : after ≡ rest = cc in
        ap (mapped (map view)) (items_step close item exact opens number tokens after one begins is)
        ∙ again one (read_items close (λ number. (item number).read) (number + 1) after)
        ∙ (λ j. mapped (λ others. same_value j ∷ others) (mapped (map view) (read_items close (λ number. (item number).read) (number + 1) (same_rest j))))
    by_step number tokens rest value begins (Stuck after) is read = absurd cc

    by_shorter : (number : ℕ) (tokens rest : List Token) (value : Seen) → (given : Outcome Item) → (item number).read tokens ≡ given
        → mapped view given ≡ Got value rest → length rest < length tokens
    by_shorter number tokens rest value (Got one after) is read =
        let same_rest : after ≡ rest = cc in
        item_shorter close (item number) (exact number) (opens number) tokens rest one (is ∙ ap (λ (given : List Token). Got one given) same_rest)
    by_shorter number tokens rest value (Stuck after) is read = absurd cc

-- where one item reads so, and all of them so
read_so : {Item : Type 0} (close : Token) (one other : ℕ → List Token → Outcome Item) (all : ℕ → List Token → Outcome (List Item))
    → ((number : ℕ) (tokens : List Token) → other number tokens ≡ one number tokens) → IsLoop close one all → IsLoop close other all
read_so close one other all same is = record {
  early = is.early;
  closes = is.closes;
  stops = λ number tokens rest begins read. is.stops number tokens rest begins (sym (same number tokens) ∙ read);
  steps = λ number tokens rest item begins read. is.steps number tokens rest item begins (sym (same number tokens) ∙ read);
  shorter = λ number tokens rest item read. is.shorter number tokens rest item (sym (same number tokens) ∙ read);
}

pub pairs_loop : (frame : Frame) → IsLoop (codes "}") (read_pair frame) (read_pairs frame)
unfolding read_pairs
pairs_loop frame =
    read_so (codes "}") _ (read_pair frame) _ (λ number tokens. sym (pair_flat frame number tokens))
    (items_loop (codes "}") (pair_form frame) flat_pair (pair_exact frame) (λ number value given. refl))

-- the signals
map_same : {Value : Type 0} (list : List Value) → map (λ value. value) list ≡ list
map_same [] = refl
map_same (value ∷ list) = ap (λ (rest : List _). value ∷ rest) (map_same list)

mapped_same : {Value : Type 0} (given : Outcome Value) → mapped (λ value. value) given ≡ given
mapped_same (Got value rest) = refl
mapped_same (Stuck rest) = refl

mapped_list : {Value : Type 0} (given : Outcome (List Value)) → mapped (map (λ value. value)) given ≡ given
mapped_list (Got list rest) = ap (λ (given : List _). Got given rest) (map_same list)
mapped_list (Stuck rest) = refl

pub signals_loop : IsLoop (codes "}") (λ number. signal_form.read) (λ number. read_items (codes "}") (λ number. signal_form.read) number)
signals_loop =
    let seen : IsLoop (codes "}") (λ number tokens. mapped (λ value. value) (signal_form.read tokens))
    (λ number tokens. mapped (map (λ value. value)) (read_items (codes "}") (λ number. signal_form.read) number tokens)) =
    items_loop (codes "}") (λ number. signal_form) (λ value. value) (λ number. signal_exact) (λ number value given. refl) in
    record {
      early = λ number. sym (mapped_list _) ∙ seen.early number;
      closes = λ number token rest closes. sym (mapped_list _) ∙ seen.closes number token rest closes;
      stops = λ number tokens rest begins read. sym (mapped_list _) ∙ seen.stops number tokens rest begins (mapped_same _ ∙ read);
      steps = λ number tokens rest item begins read.
          sym (mapped_list _) ∙ seen.steps number tokens rest item begins (mapped_same _ ∙ read)
          ∙ ap (mapped (λ others. item ∷ others)) (mapped_list _);
      shorter = λ number tokens rest item read. seen.shorter number tokens rest item (mapped_same _ ∙ read);
    }

-- the next token is the closing one, or another
pub closes_so : (close due token : Token) (result : Bool) → result ≡ bytes_eq token due → due ≡ close → result ≡ true → bytes_eq close token ≡ true
closes_so close due token result known due_is is =
    let same : token ≡ due = (bytes_eq-Decides token due).0 (sym known ∙ is) in
    (bytes_eq-Decides close token).1 (sym (same ∙ due_is))

pub begins_so : (close due token : Token) (result : Bool) (tokens rest : List Token) → tokens ≡ token ∷ rest
    → result ≡ bytes_eq token due → due ≡ close → result ≡ false → BeginsOther close tokens
begins_so close due token result tokens rest begins known due_is is = subst (BeginsOther close) (sym begins) (by (bytes_eq close token) refl)
  where
    by : (test : Bool) → bytes_eq close token ≡ test → bytes_eq close token ≡ false
    by false given = given
    by true given =
        let same : close ≡ token = (bytes_eq-Decides close token).0 given in
        let again : bytes_eq token due ≡ true = (bytes_eq-Decides token due).1 (sym same ∙ sym due_is) in
        let both : false ≡ true = sym is ∙ known ∙ again in
        absurd cc

-- an item is put after those that were read
pub loop_push : {Kept Item : Type 0} (view : Kept → Item) (start : Outcome (List Item)) (all : ℕ → List Token → Outcome (List Item))
    (list new : List Kept) (one : Kept) (rest : List Token) → new ≡ list ++ one ∷ []
    → start ≡ mapped (λ others. (map view list ++ view one ∷ []) ++ others) (all (length list + 1) rest)
    → start ≡ mapped (λ others. map view new ++ others) (all (length new) rest)
loop_push {Kept} {Item} view start all list new one rest new_is so_far =
    so_far
    ∙ (λ j. mapped (λ others. sym (seen list) j ++ others) (all (sym (counted list) j) rest))
    ∙ (λ j. mapped (λ others. map view (sym new_is j) ++ others) (all (length (sym new_is j)) rest))
  where
    seen : (given : List Kept) → map view (given ++ one ∷ []) ≡ map view given ++ view one ∷ []
    seen [] = refl
    seen (first ∷ given) = ap (λ (more : List Item). view first ∷ more) (seen given)

    counted : (given : List Kept) → length (given ++ one ∷ []) ≡ length given + 1
    counted given = omega (arith, length-append given (one ∷ []))
