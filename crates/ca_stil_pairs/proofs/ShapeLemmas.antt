-- Pairs of the form with the same bits and values one after another are the same.
use Rattle.std.proofs.Common.{◌≡◌, ℕ, ◌+◌, Bool, true, ◌&&◌, List, [], ◌∷◌, ◌++◌, length, map, ap, sym}
use Rattle.std.proofs.Common.{◌∙◌, append-nil, refl, length-append}
use Rattle.std.proofs.lemmas.Bool.{eqb-true}
use Rattle.ca_net.specs.declared.trit.Trit.{Trit}
use Rattle.ca_stil_form.specs.Form.{all_each}
use Rattle.ca_stil_form.specs.Frame.{Member, Frame, load_members, unload_members, group_member}
use Rattle.ca_stil_form.specs.Frame.{key_inputs, key_outputs}
use Rattle.ca_stil_form.specs.Pattern.{PairValues, bits_form, levels_form, pair_form}
use Rattle.ca_stil_form.proofs.FormLemmas.{left_true, right_true}
use Rattle.ca_stil_read.specs.Plan.{Flat, flat, flat_pair}
use Rattle.ca_stil_pairs.proofs.ListLemmas.{lists_of, flat_long}

-- how many values each of a statement's members has
abbrev pub counts : List Member → List ℕ
counts members = map (λ (member : Member). member.used) members

each_long : {Value : Type 0} (allowed : Member → List Value → Bool)
    → ((member : Member) (values : List Value) → allowed member values ≡ true → length values ≡ member.used)
    → (members : List Member) (lists : List (List Value)) → all_each allowed members lists ≡ true
    → map length lists ≡ counts members
unfolding all_each
each_long allowed long [] [] is = refl
each_long allowed long [] (list ∷ lists) is = absurd cc
each_long allowed long (member ∷ members) [] is = absurd cc
each_long allowed long (member ∷ members) (list ∷ lists) is =
    let here = long member list (left_true (allowed member list) (all_each allowed members lists) is) in
    let later = each_long allowed long members lists (right_true (allowed member list) (all_each allowed members lists) is) in
    λ j. here j ∷ later j

bits_long : (members : List Member) (lists : List (List Bool))
    → all_each (λ member. (bits_form member).allowed) members lists ≡ true → map length lists ≡ counts members
bits_long members lists is =
    each_long (λ member. (bits_form member).allowed) (λ member values is. eqb-true (length values) member.used is) members lists is

levels_long : (members : List Member) (lists : List (List Trit))
    → all_each (λ member. (levels_form member).allowed) members lists ≡ true → map length lists ≡ counts members
levels_long members lists is =
    each_long (λ member. (levels_form member).allowed) (λ member values is. eqb-true (length values) member.used is) members lists is

-- the lengths of a pair's lists
pub record HasShape (frame : Frame) (values : PairValues) : Type 0 where
  pub first_state : map length values.0 ≡ counts (load_members frame.chains)
  pub first : map length values.1.0 ≡ counts (group_member key_inputs frame.inputs)
  pub last_state : map length values.1.1.0 ≡ counts (load_members frame.chains)
  pub last : map length values.1.1.1.0 ≡ counts (group_member key_inputs frame.inputs)
  pub expected : map length values.1.1.1.1.0 ≡ counts (group_member key_outputs frame.outputs)
  pub captured : map length values.1.1.1.1.1 ≡ counts (unload_members frame.chains)

pub shape_of : (frame : Frame) (number : ℕ) (values : PairValues) → (pair_form frame number).allowed values ≡ true → HasShape frame values
shape_of frame number values is =
    let loads : List Member = load_members frame.chains in
    let ins : List Member = group_member key_inputs frame.inputs in
    let outs : List Member = group_member key_outputs frame.outputs in
    let one : Bool = all_each (λ member. (bits_form member).allowed) loads values.0 in
    let two : Bool = all_each (λ member. (bits_form member).allowed) ins values.1.0 in
    let three : Bool = all_each (λ member. (bits_form member).allowed) loads values.1.1.0 in
    let four : Bool = all_each (λ member. (bits_form member).allowed) ins values.1.1.1.0 in
    let five : Bool = all_each (λ member. (levels_form member).allowed) outs values.1.1.1.1.0 in
    let six : Bool = all_each (λ member. (levels_form member).allowed) (unload_members frame.chains) values.1.1.1.1.1 in
    let after_one = right_true one (two && (three && (four && (five && six)))) is in
    let after_two = right_true two (three && (four && (five && six))) after_one in
    let after_three = right_true three (four && (five && six)) after_two in
    let after_four = right_true four (five && six) after_three in
    record {
      first_state = bits_long loads values.0 (left_true one (two && (three && (four && (five && six)))) is);
      first = bits_long ins values.1.0 (left_true two (three && (four && (five && six))) after_one);
      last_state = bits_long loads values.1.1.0 (left_true three (four && (five && six)) after_two);
      last = bits_long ins values.1.1.1.0 (left_true four (five && six) after_three);
      expected = levels_long outs values.1.1.1.1.0 (left_true five six after_four);
      captured = levels_long (unload_members frame.chains) values.1.1.1.1.1 (right_true five six after_four);
    }

-- such pairs with the same bits and values are the same
pub same_pair : (frame : Frame) (values others : PairValues) → HasShape frame values → HasShape frame others
    → flat_pair values ≡ flat_pair others → values ≡ others
same_pair frame values others shape other_shape same =
    let bits = ap (λ (both : Flat). both.0) same in
    let levels = ap (λ (both : Flat). both.1) same in
    let one = lists_of values.0 others.0 _ _ (shape.first_state ∙ sym other_shape.first_state) bits in
    let two = lists_of values.1.0 others.1.0 _ _ (shape.first ∙ sym other_shape.first) one.back in
    let three = lists_of values.1.1.0 others.1.1.0 _ _ (shape.last_state ∙ sym other_shape.last_state) two.back in
    let four = lists_of values.1.1.1.0 others.1.1.1.0 [] [] (shape.last ∙ sym other_shape.last) three.back in
    let five = lists_of values.1.1.1.1.0 others.1.1.1.1.0 (flat values.1.1.1.1.1) (flat others.1.1.1.1.1)
    (shape.expected ∙ sym other_shape.expected) levels in
    let six = lists_of values.1.1.1.1.1 others.1.1.1.1.1 [] [] (shape.captured ∙ sym other_shape.captured)
    (append-nil (flat values.1.1.1.1.1) ∙ five.back ∙ sym (append-nil (flat others.1.1.1.1.1))) in
    λ j. (one.front j, (two.front j, (three.front j, (four.front j, (five.front j, six.front j)))))

-- pairs of one shape have as many bits and values
pub same_long : (frame : Frame) (values others : PairValues) → HasShape frame values → HasShape frame others
    → (length (flat_pair values).0 ≡ length (flat_pair others).0) × (length (flat_pair values).1 ≡ length (flat_pair others).1)
same_long frame values others shape other_shape =
    let one = flat_long values.0 others.0 (shape.first_state ∙ sym other_shape.first_state) in
    let two = flat_long values.1.0 others.1.0 (shape.first ∙ sym other_shape.first) in
    let three = flat_long values.1.1.0 others.1.1.0 (shape.last_state ∙ sym other_shape.last_state) in
    let four = flat_long values.1.1.1.0 others.1.1.1.0 (shape.last ∙ sym other_shape.last) in
    let five = flat_long values.1.1.1.1.0 others.1.1.1.1.0 (shape.expected ∙ sym other_shape.expected) in
    let six = flat_long values.1.1.1.1.1 others.1.1.1.1.1 (shape.captured ∙ sym other_shape.captured) in (
      four_long (flat values.0) (flat values.1.0) (flat values.1.1.0) (flat values.1.1.1.0)
          (flat others.0) (flat others.1.0) (flat others.1.1.0) (flat others.1.1.1.0) one two three four,
      length-append (flat values.1.1.1.1.0) (flat values.1.1.1.1.1) ∙ (λ j. five j + six j)
          ∙ sym (length-append (flat others.1.1.1.1.0) (flat others.1.1.1.1.1)),
    )
  where
    four_long : (a b c d e f g h : List Bool) → length a ≡ length e → length b ≡ length f → length c ≡ length g → length d ≡ length h
        → length (a ++ (b ++ (c ++ (d ++ [])))) ≡ length (e ++ (f ++ (g ++ (h ++ []))))
    four_long a b c d e f g h one two three four =
        length-append a (b ++ (c ++ (d ++ [])))
        ∙ (λ j. one j + (length-append b (c ++ (d ++ []))
        ∙ (λ i. two i + (length-append c (d ++ []) ∙ (λ k. three k + (length-append d [] ∙ (λ l. four l + 0)
        ∙ sym (length-append h [])) k) ∙ sym (length-append g (h ++ []))) i) ∙ sym (length-append f (g ++ (h ++ [])))) j)
        ∙ sym (length-append e (f ++ (g ++ (h ++ []))))
