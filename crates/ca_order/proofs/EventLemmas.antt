-- The event of a line's words.
use Rattle.std.proofs.Common.{◌≡◌, ℕ, ◌<◌, ◌==◌, Bool, true, false, List, [], ◌∷◌, ◌++◌, ◌∙◌, length, ap}
use Rattle.std.proofs.Common.{refl, sym, append_assoc, codes, Option, Some, None}
use Rattle.std.specs.Prelude.{if◌then◌else◌, MatchOption}
use Rattle.std.specs.Borrow.{Bor}
use Rattle.std.specs.Str.{bytes_eq}
use Rattle.ca_lex.specs.Words.{with_byte}
use Rattle.ca_net.specs.declared.node.NodeId.{NodeId}
use Rattle.ca_order.specs.declared.event.Place.{Place}
use Rattle.ca_order.specs.Lines.{words_of, node_of, with_node, nodes_of, some_nodes, value_of}
use Rattle.ca_order.specs.code.Lines.{nodes_before}
use Rattle.ca_order.specs.Order.{set_of, set_with, settled, blurred, event_of}

-- a text has a word
record HasWord (words : List (List ℕ)) : Type 0 where
  pub word : List ℕ
  pub others : List (List ℕ)
  pub are : words ≡ word ∷ others

has_word : (text : List ℕ) → HasWord (words_of text)
unfolding words_of
has_word [] = record { word = []; others = []; are = refl }
has_word (byte ∷ bytes) = by (byte == 32) (has_word bytes)
  where
    by : (test : Bool) → HasWord (words_of bytes)
        → HasWord (elim test as (λ _. List (List ℕ)) [ true ↦ [] ∷ words_of bytes | false ↦ with_byte byte (words_of bytes) ])
    by true has = record { word = []; others = words_of bytes; are = refl }
    by false has = record { word = byte ∷ has.word; others = has.others; are = ap (with_byte byte) has.are }

-- a setting of one word, of two, of more
pub set_one : (places : List Place) (text node : List ℕ) → words_of text ≡ node ∷ [] → set_with places (words_of text) ≡ None
unfolding set_with
set_one places text node is = ap (set_with places) is

pub set_two : (places : List Place) (text node rest value : List ℕ) → words_of text ≡ node ∷ words_of rest → words_of rest ≡ value ∷ []
    → set_with places (words_of text) ≡ set_of places (node_of places node) (value_of value)
unfolding set_with
set_two places text node rest value is last = ap (set_with places) (is ∙ ap (λ (words : List (List ℕ)). node ∷ words) last)

pub set_more : (places : List Place) (text node rest value more : List ℕ) → words_of text ≡ node ∷ words_of rest
    → words_of rest ≡ value ∷ words_of more → set_with places (words_of text) ≡ None
unfolding set_with
set_more places text node rest value more is last =
    let has = has_word more in
    ap (set_with places) (is ∙ ap (λ (words : List (List ℕ)). node ∷ words) (last ∙ ap (λ (words : List (List ℕ)). value ∷ words) has.are))

-- a line of one word is no event
pub no_words : (places : List Place) (text word : List ℕ) → words_of text ≡ word ∷ [] → event_of places (words_of text) ≡ None
unfolding event_of set_with
no_words places text word is = ap (event_of places) is ∙ by (bytes_eq word (codes "settle")) (bytes_eq word (codes "blur")) (bytes_eq word (codes "set"))
  where
    by : (one two three : Bool) → (if one then settled None else (if two then blurred None else (if three then None else None))) ≡ None
    by true two three = refl
    by false true three = refl
    by false false true = refl
    by false false false = refl

some_are : (places : List Place) (rest : List ℕ) → some_nodes places (words_of rest) ≡ nodes_of places (words_of rest)
some_are places rest =
    let has = has_word rest in
    ap (some_nodes places) has.are ∙ sym (ap (nodes_of places) has.are)

-- a line that settles, blurs, sets, or does nothing of these
pub settles : (places : List Place) (text word rest : List ℕ) → words_of text ≡ word ∷ words_of rest → bytes_eq word (codes "settle") ≡ true
    → event_of places (words_of text) ≡ settled (nodes_of places (words_of rest))
unfolding event_of
settles places text word rest is one =
    ap (event_of places) is
    ∙ (λ j. if one j then settled (some_nodes places (words_of rest)) else (if bytes_eq word (codes "blur") then blurred (some_nodes places (words_of rest))
    else (if bytes_eq word (codes "set") then set_with places (words_of rest) else None)))
    ∙ ap settled (some_are places rest)

pub blurs : (places : List Place) (text word rest : List ℕ) → words_of text ≡ word ∷ words_of rest → bytes_eq word (codes "settle") ≡ false
    → bytes_eq word (codes "blur") ≡ true → event_of places (words_of text) ≡ blurred (nodes_of places (words_of rest))
unfolding event_of
blurs places text word rest is one two =
    ap (event_of places) is
    ∙ (λ j. if one j then settled (some_nodes places (words_of rest)) else (if two j then blurred (some_nodes places (words_of rest))
    else (if bytes_eq word (codes "set") then set_with places (words_of rest) else None)))
    ∙ ap blurred (some_are places rest)

pub sets : (places : List Place) (text word rest : List ℕ) → words_of text ≡ word ∷ words_of rest → bytes_eq word (codes "settle") ≡ false
    → bytes_eq word (codes "blur") ≡ false → bytes_eq word (codes "set") ≡ true → event_of places (words_of text) ≡ set_with places (words_of rest)
unfolding event_of
sets places text word rest is one two three =
    ap (event_of places) is
    ∙ (λ j. if one j then settled (some_nodes places (words_of rest)) else (if two j then blurred (some_nodes places (words_of rest))
    else (if three j then set_with places (words_of rest) else None)))

pub no_event : (places : List Place) (text word rest : List ℕ) → words_of text ≡ word ∷ words_of rest → bytes_eq word (codes "settle") ≡ false
    → bytes_eq word (codes "blur") ≡ false → bytes_eq word (codes "set") ≡ false → event_of places (words_of text) ≡ None
unfolding event_of
no_event places text word rest is one two three =
    ap (event_of places) is
    ∙ (λ j. if one j then settled (some_nodes places (words_of rest)) else (if two j then blurred (some_nodes places (words_of rest))
    else (if three j then set_with places (words_of rest) else None)))

-- the nodes of words, one after another
pub one_node : (places : List Place) (nodes : List NodeId) (word : List ℕ) (words : List (List ℕ)) (node : NodeId) → node_of places word ≡ Some node
    → nodes_before nodes (nodes_of places (word ∷ words)) ≡ nodes_before (nodes ++ node ∷ []) (nodes_of places words)
unfolding nodes_of
one_node places nodes word words node is =
    ap (λ (first : Option NodeId). nodes_before nodes (with_node first (nodes_of places words))) is ∙ by (nodes_of places words)
  where
    by : (more : Option (List NodeId)) → nodes_before nodes (with_node (Some node) more) ≡ nodes_before (nodes ++ node ∷ []) more
    by None = refl
    by (Some more) = ap (λ (all : List NodeId). Some all) (sym (append_assoc nodes (node ∷ []) more))

pub no_node : (places : List Place) (nodes : List NodeId) (word : List ℕ) (words : List (List ℕ)) → node_of places word ≡ None
    → nodes_before nodes (nodes_of places (word ∷ words)) ≡ None
unfolding nodes_of
no_node places nodes word words is = ap (λ (first : Option NodeId). nodes_before nodes (with_node first (nodes_of places words))) is

pub last_node : (places : List Place) (nodes : List NodeId) (word : List ℕ) (node : NodeId) → node_of places word ≡ Some node
    → nodes_before nodes (nodes_of places (word ∷ [])) ≡ Some (nodes ++ node ∷ [])
unfolding nodes_of
last_node places nodes word node is = ap (λ (first : Option NodeId). nodes_before nodes (with_node first (nodes_of places []))) is

-- a text's words begin with its first one
pub first_word : (given : Option (Bor (List ℕ))) (text word : List ℕ)
    → MatchOption given (words_of text ≡ word ∷ []) (λ rest. (words_of text ≡ word ∷ words_of rest.now) × (length rest.now < length text))
    → (words : List (List ℕ)) × (words_of text ≡ word ∷ words)
first_word None text word is = ([], is)
first_word (Some rest) text word is = (words_of rest.now, is.0)

-- what a line of some words reads as, for a search
pub ruleset lines = (no_words, settles, blurs, sets, no_event)

-- what a setting of some words reads as
pub ruleset settings = (set_one, set_two, set_more)
