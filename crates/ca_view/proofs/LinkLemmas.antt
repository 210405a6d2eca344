-- How links grow.
use Rattle.std.proofs.Common.{ℕ, zero, suc, ◌+◌, ◌≡◌, ◌<◌, ◌⊎◌, ◌↔◌, inl, inr, Bool, true, false, List, []}
use Rattle.std.proofs.Common.{◌∷◌, ◌++◌, length, get_or, set, take, replicate, refl, sym, ◌∙◌, ap, subst}
use Rattle.std.proofs.Common.{arith, eqb, get_or-set_same, eqb-true, ltb, get_or-set_other, length-set}
use Rattle.std.proofs.Common.{ltb-true, ltb-false}
use Rattle.std.specs.List.{All, Contains}
use Rattle.std.specs.Prelude.{Vec}
use Rattle.std.specs.Global.{Global}
use Rattle.std.proofs.lemmas.List.{take_more, length-replicate, get_or-replicate, get_or-map, map-append}
use Rattle.std.proofs.lemmas.List.{get_or_past, map-set, length-map, set-get_or}
use Rattle.std.proofs.lemmas.List.Elements.{Contains-push, Contains-push_cases, Contains-append_left}
use Rattle.std.proofs.lemmas.List.Elements.{All-get_or, All-replicate, All-push, All-nil, All-set}
use Rattle.ca_view.specs.NetLists.{linked_from, AreWithin}
use Rattle.ca_view.specs.Pins.{Pins}
use Rattle.ca_view.specs.code.Pins.{items_of, inputs_of, outputs_of}
use Rattle.ca_view.specs.code.Links.{Grows, IsLink, IsLinkToEach, IsLinkOfPins, IsLinkOfFirst, LinksPins}
use Rattle.std.proofs.lemmas.Bool.{eqb-false}

-- nothing has come
pub grows_none : (is_new : ℕ → ℕ → Type 0) (links : List (List ℕ)) → ((before net : ℕ) → is_new before net → ⊥) → Grows is_new links links
grows_none is_new links none = record {
  count = refl;
  links = λ before net. ((λ there. inl there), (λ which. elim which [ inl there ↦ there | inr new ↦ absurd (none before net new) ]));
}

-- one after the other
pub grows_on : (first second both : ℕ → ℕ → Type 0) (old mid new : List (List ℕ)) → Grows first old mid → Grows second mid new
    → ((before net : ℕ) → both before net ↔ (first before net ⊎ second before net)) → Grows both old new
grows_on first second both old mid new one two split = record {
  count = two.count ∙ one.count;
  links = λ before net. (
    (λ there. elim ((two.links before net).0 there) [
      | inl was ↦ elim ((one.links before net).0 was) [ inl first_was ↦ inl first_was | inr new_one ↦ inr ((split before net).1 (inl new_one)) ]
      | inr new_two ↦ inr ((split before net).1 (inr new_two))
    ]),
    (λ which. elim which [
      | inl was ↦ (two.links before net).1 (inl ((one.links before net).1 (inl was)))
      | inr new_both ↦ elim ((split before net).0 new_both) [
        | inl new_one ↦ (two.links before net).1 (inl ((one.links before net).1 (inr new_one)))
        | inr new_two ↦ (two.links before net).1 (inr new_two)
      ]
    ]),
  );
}

-- the link has come
pub grows_one : (old new : List (List ℕ)) (from to : ℕ) → from < length old → new ≡ set old from (linked_from old from ++ to ∷ []) → Grows (IsLink from to) old new
grows_one old new from to within e = record {
  count = ap length e ∙ length-set old from (linked_from old from ++ to ∷ []);
  links = λ before net. at before net (eqb before from) refl;
}
  where
    here : linked_from new from ≡ linked_from old from ++ to ∷ []
    here = ap (λ l. linked_from l from) e ∙ get_or-set_same old from (linked_from old from ++ to ∷ []) [] within

    other : (before : ℕ) → (before ≡ from → ⊥) → linked_from new before ≡ linked_from old before
    other before differ = ap (λ l. linked_from l before) e ∙ get_or-set_other old from before (linked_from old from ++ to ∷ []) [] differ

    at : (before net : ℕ) (b : Bool) → eqb before from ≡ b
        → Contains (linked_from new before) net ↔ (Contains (linked_from old before) net ⊎ IsLink from to before net)
    at before net true test =
        let same = eqb-true before from test in (
          (λ there. elim (Contains-push_cases (linked_from old from) to net (subst (λ l. Contains l net) (ap (linked_from new) same ∙ here) there)) [
            | inl was ↦ inl (subst (λ n. Contains (linked_from old n) net) (sym same) was)
            | inr e_net ↦ inr (sym same, e_net)
          ]),
          (λ which. subst (λ l. Contains l net) (sym (ap (linked_from new) same ∙ here)) (elim which [
            | inl was ↦ Contains-append_left (linked_from old from) (to ∷ []) net (subst (λ n. Contains (linked_from old n) net) same was)
            | inr link ↦ subst (Contains (linked_from old from ++ to ∷ [])) link.1 (Contains-push (linked_from old from) to)
          ])),
        )
    at before net false test =
        let differ = eqb-false before from test in (
          (λ there. inl (subst (λ l. Contains l net) (other before differ) there)),
          (λ which. elim which [
            | inl was ↦ subst (λ l. Contains l net) (sym (other before differ)) was
            | inr link ↦ absurd (differ (sym link.0))
          ]),
        )

-- one element more
contains_more : (nets : List ℕ) (place net : ℕ) → place < length nets → Contains (take (place + 1) nets) net ↔ (Contains (take place nets) net ⊎ (get_or nets place 0 ≡ net))
contains_more nets place net within = (
  (λ there. Contains-push_cases (take place nets) (get_or nets place 0) net (subst (λ l. Contains l net) more there)),
  (λ which. subst (λ l. Contains l net) (sym more) (elim which [
    | inl was ↦ Contains-append_left (take place nets) (get_or nets place 0 ∷ []) net was
    | inr same ↦ subst (Contains (take place nets ++ get_or nets place 0 ∷ [])) same (Contains-push (take place nets) (get_or nets place 0))
  ])),
)
  where
    more : take (place + 1) nets ≡ take place nets ++ get_or nets place 0 ∷ []
    more = take_more nets place 0 within

pub each_more : (old mid new : List (List ℕ)) (from : ℕ) (tos : List ℕ) (place : ℕ) → place < length tos → from < length old
    → Grows (IsLinkToEach from (take place tos)) old mid → new ≡ set mid from (linked_from mid from ++ get_or tos place 0 ∷ [])
    → Grows (IsLinkToEach from (take (place + 1) tos)) old new
each_more old mid new from tos place within inside grown e =
    grows_on (IsLinkToEach from (take place tos)) (IsLink from (get_or tos place 0)) (IsLinkToEach from (take (place + 1) tos)) old mid new grown
    (grows_one mid new from (get_or tos place 0) (subst (λ n. from < n) (sym grown.count) inside) e)
    (λ before net. (
      (λ link. elim ((contains_more tos place net within).0 link.1) [ inl was ↦ inl (link.0, was) | inr same ↦ inr (link.0, same) ]),
      (λ which. elim which [
        | inl link ↦ (link.0, (contains_more tos place net within).1 (inl link.1))
        | inr link ↦ (link.0, (contains_more tos place net within).1 (inr link.1))
      ]),
    ))

pub pins_more : (old mid new : List (List ℕ)) (froms tos : List ℕ) (place : ℕ) → place < length froms
    → Grows (IsLinkOfPins (take place froms) tos) old mid → Grows (IsLinkToEach (get_or froms place 0) tos) mid new
    → Grows (IsLinkOfPins (take (place + 1) froms) tos) old new
pins_more old mid new froms tos place within grown more =
    grows_on (IsLinkOfPins (take place froms) tos) (IsLinkToEach (get_or froms place 0) tos) (IsLinkOfPins (take (place + 1) froms) tos) old mid new grown more
    (λ before net. (
      (λ link. elim ((contains_more froms place before within).0 link.0) [ inl was ↦ inl (was, link.1) | inr same ↦ inr (same, link.1) ]),
      (λ which. elim which [
        | inl link ↦ ((contains_more froms place before within).1 (inl link.0), link.1)
        | inr link ↦ ((contains_more froms place before within).1 (inr link.0), link.1)
      ]),
    ))

pub first_more : (pins : Pins) (old mid new : List (List ℕ)) (done : ℕ) (froms tos : List ℕ) → froms ≡ inputs_of pins done → tos ≡ outputs_of pins done
    → Grows (IsLinkOfFirst pins done) old mid → Grows (IsLinkOfPins froms tos) mid new → Grows (IsLinkOfFirst pins (done + 1)) old new
first_more pins old mid new done froms tos froms_are tos_are grown more =
    grows_on (IsLinkOfFirst pins done) (IsLinkOfPins froms tos) (IsLinkOfFirst pins (done + 1)) old mid new grown more
    (λ before net. (to before net, back before net))
  where
    to : (before net : ℕ) → IsLinkOfFirst pins (done + 1) before net → IsLinkOfFirst pins done before net ⊎ IsLinkOfPins froms tos before net
    to before net link = at (eqb link.instance done) refl
      where
        at : (b : Bool) → eqb link.instance done ≡ b → IsLinkOfFirst pins done before net ⊎ IsLinkOfPins froms tos before net
        at true test =
            let same = eqb-true link.instance done test in
            inr (
              subst (λ l. Contains l before) (ap (inputs_of pins) same ∙ sym froms_are) link.link.0,
              subst (λ l. Contains l net) (ap (outputs_of pins) same ∙ sym tos_are) link.link.1,
            )
        at false test =
            let differ = eqb-false link.instance done test in
            let within : link.instance < done + 1 = link.known in
            inl (record { instance = link.instance; known = omega (arith, differ); link = link.link })

    back : (before net : ℕ) → IsLinkOfFirst pins done before net ⊎ IsLinkOfPins froms tos before net → IsLinkOfFirst pins (done + 1) before net
    back before net which = elim which [
      | inl link ↦ record { instance = link.instance; known = (let known = link.known in omega arith); link = link.link }
      | inr link ↦ record {
        instance = done;
        known = omega arith;
        link = (subst (λ l. Contains l before) froms_are link.0, subst (λ l. Contains l net) tos_are link.1);
      }
    ]

no_member : (net : ℕ) → Contains [] net → ⊥
no_member net none = let within : none.0 < 0 = none.1 in omega arith

none_linked : (nets before net : ℕ) → Contains (linked_from (replicate nets []) before) net → ⊥
none_linked nets before net there = at (ltb before nets) refl
  where
    at : (b : Bool) → ltb before nets ≡ b → ⊥
    at true e = no_member net (subst (λ l. Contains l net) (get_or-replicate nets before [] [] (ltb-true before nets e)) there)
    at false e =
        let past = ltb-false before nets e in
        let count = length-replicate {A = List ℕ} nets [] in
        no_member net (subst (λ l. Contains l net) (get_or_past (replicate nets []) before [] (omega (arith, past, count))) there)

-- one list of a table is longer
pub longer_list : (lists : List (Vec ℕ Global)) (from to : ℕ) (was longer : Vec ℕ Global) (view : List (List ℕ)) → from < length view → was ≡ get_or lists from was
    → longer.items ≡ was.items ++ to ∷ [] → items_of lists ≡ view → items_of (set lists from longer) ≡ set view from (linked_from view from ++ to ∷ [])
longer_list lists from to was longer view inside read push e =
    let counted : length (items_of lists) ≡ length lists = length-map lists (λ (v : Vec ℕ Global). v.items) in
    let within : from < length lists = omega (arith, inside, counted, ap length e) in
    let old : was.items ≡ get_or (items_of lists) from [] = ap (λ v. v.items) read ∙ sym (get_or-map (λ (v : Vec ℕ Global). v.items) lists from was [] within) in
    map-set (λ (v : Vec ℕ Global). v.items) lists from longer
    ∙ ap (λ l. set (items_of lists) from l) (push ∙ ap (λ l. l ++ to ∷ []) old)
    ∙ ap (λ l. set l from (linked_from l from ++ to ∷ [])) e

replicate_push : (n : ℕ) → replicate {A = List ℕ} n [] ++ [] ∷ [] ≡ replicate (suc n) []
replicate_push zero = refl
replicate_push (suc n) = ap (λ l. [] ∷ l) (replicate_push n)

-- one empty list more
pub empty_more : (lists all : List (Vec ℕ Global)) (list : Vec ℕ Global) (n : ℕ) → all ≡ lists ++ list ∷ [] → list.items ≡ [] → items_of lists ≡ replicate n []
    → items_of all ≡ replicate (n + 1) []
empty_more lists all list n push none e =
    let next : suc n ≡ n + 1 = omega arith in
    ap items_of push ∙ map-append (λ (v : Vec ℕ Global). v.items) lists (list ∷ [])
    ∙ ap (λ l. items_of lists ++ l ∷ []) none ∙ ap (λ l. l ++ [] ∷ []) e ∙ replicate_push n ∙ ap (λ k. replicate k []) next

-- from no links on
pub all_links : (pins : Pins) (start links : List (List ℕ)) (done : ℕ) → start ≡ replicate pins.nets [] → done ≡ pins.count
    → Grows (IsLinkOfFirst pins done) start links → LinksPins pins links
all_links pins start links done empty all grown = record {
  counted = grown.count ∙ ap length empty ∙ length-replicate pins.nets [];
  links = λ before net. (
    (λ there. elim ((grown.links before net).0 there) [
      | inl was ↦ absurd (none_linked pins.nets before net (subst (λ l. Contains (linked_from l before) net) empty was))
      | inr link ↦ record { instance = link.instance; known = (let known = link.known in omega (arith, all)); link = link.link }
    ]),
    (λ link. (grown.links before net).1 (inr (record { instance = link.instance; known = (let known = link.known in omega (arith, all)); link = link.link }))),
  );
}

-- a link within the table keeps all within
pub within_more : (old new : List (List ℕ)) (from to : ℕ) → AreWithin old → from < length old → to < length old
    → new ≡ set old from (linked_from old from ++ to ∷ []) → AreWithin new
within_more old new from to all within inside e =
    let count : length new ≡ length old = ap length e ∙ length-set old from (linked_from old from ++ to ∷ []) in
    let here : All (λ net. net < length old) (linked_from old from) = All-get_or (All (λ net. net < length old)) old from [] within all in
    let more : All (λ net. net < length old) (linked_from old from ++ to ∷ []) = All-push (λ net. net < length old) (linked_from old from) to here inside in
    subst (λ n. All (All (λ net. net < n)) new) (sym count)
    (subst (All (All (λ net. net < length old))) (sym e) (All-set (All (λ net. net < length old)) old from (linked_from old from ++ to ∷ []) more all))

-- no links are within
pub within_none : (links : List (List ℕ)) (nets : ℕ) → links ≡ replicate nets [] → AreWithin links
within_none links nets e =
    subst (All (All (λ net. net < length links))) (sym e) (All-replicate (All (λ net. net < length links)) nets [] (All-nil (λ net. net < length links)))

-- a list that stays as it was
pub same_list : (lists : List (Vec ℕ Global)) (from : ℕ) (was other : Vec ℕ Global) → from < length (items_of lists) → was ≡ get_or lists from was
    → other.items ≡ was.items → items_of (set lists from other) ≡ items_of lists
same_list lists from was other inside read same =
    let counted : length (items_of lists) ≡ length lists = length-map lists (λ (v : Vec ℕ Global). v.items) in
    let within : from < length lists = omega (arith, inside, counted) in
    let old : was.items ≡ get_or (items_of lists) from [] = ap (λ v. v.items) read ∙ sym (get_or-map (λ (v : Vec ℕ Global). v.items) lists from was [] within) in
    map-set (λ (v : Vec ℕ Global). v.items) lists from other
    ∙ ap (λ l. set (items_of lists) from l) (same ∙ old)
    ∙ set-get_or (items_of lists) from []
