-- A cell that was written is read as that cell alone.
use Rattle.std.proofs.Common.{◌≡◌, ℕ, ◌+◌, ◌^◌, ◌<◌, ◌≤◌, ◌⊎◌, inl, inr, Bool, true, false, ◌&&◌, ◌||◌, not}
use Rattle.std.proofs.Common.{cond, eqb, List, [], ◌∷◌, ◌++◌, length, map, take, Option, Some, None, Result, Ok}
use Rattle.std.proofs.Common.{Err, refl, sym, ap, ◌∙◌, subst, arith, append_assoc, codes, take_at}
use Rattle.std.specs.Prelude.{IfOk, find, unwrap_or, option_map}
use Rattle.std.specs.List.{flat_map, AllByRecursion, list_all}
use Rattle.std.specs.Str.{bytes_eq}
use Rattle.std.proofs.Math.Seq.{take-length}
use Rattle.std.proofs.lemmas.List.{append-nil, map-append}
use Rattle.std.proofs.lemmas.List.Sums.{sum_by-cons}
use Rattle.std.proofs.lemmas.Bool.{eqb-true}
use Rattle.ca_net.specs.declared.device.DeviceKind.{DeviceKind}
use Rattle.ca_net.specs.declared.device.DeviceKind.TheVariants as kind
use Rattle.ca_lex.specs.Words.{is_blank, words_of, upper_case}
use Rattle.ca_lex.specs.Physical.{lines_of, physical_of, PinInfo, Card}
use Rattle.ca_lex.specs.Lines.{continued, logical_from, spice_lines}
use Rattle.ca_lex.specs.FirstFault.{steps_from}
use Rattle.ca_lex.specs.Reading.{unless}
use Rattle.ca_cell.specs.declared.strength.StrengthTable.{StrengthTable}
use Rattle.ca_cell.specs.declared.raw.Role.{Role}
use Rattle.ca_cell.specs.declared.raw.RawPin.{RawPin}
use Rattle.ca_cell.specs.declared.raw.RawDevice.{RawDevice}
use Rattle.ca_cell.specs.declared.raw.RawCell.{RawCell}
use Rattle.ca_cell.specs.declared.rule.CellRule.TheVariants.{NoRail}
use Rattle.ca_cell.specs.Raw.{is_power, is_ground, role_count}
use Rattle.ca_cell.specs.Rules.{KeepsRules}
use Rattle.ca_spice.specs.declared.card.Card as cards
use Rattle.ca_spice.specs.declared.card.Card.TheVariants as card
use Rattle.ca_spice.specs.declared.fault.SpiceKind.{SpiceKind}
use Rattle.ca_spice.specs.declared.fault.SpiceKind.TheVariants.{NotText, BadCard, DoubleName}
use Rattle.ca_spice.specs.declared.fault.SpiceFault.{SpiceFault}
use Rattle.ca_spice.specs.declared.pin.Pin.{Pin}
use Rattle.ca_spice.specs.declared.subcircuit.Subcircuit.{Subcircuit}
use Rattle.ca_names.specs.Names.{has_double}
use Rattle.ca_spice.specs.Names.{is_text}
use Rattle.ca_spice.specs.Card.{card_by_letter, is_ignored, card_of}
use Rattle.ca_spice.specs.PinInfo as info
use Rattle.ca_spice.specs.OpenCell.{OpenCell, new_cell, has_roles, pin_info, has_device, with_device, mos}
use Rattle.ca_spice.specs.OpenCell.{resistor, subcircuit_with, ended}
use Rattle.ca_spice.specs.Reading.{Reading, nothing, is_outside, with_open, is_header_word, is_header, named}
use Rattle.ca_spice.specs.Reading.{subckt, in_cell, goes_on, with_cell, ends, card_step, is_comment, judged}
use Rattle.ca_spice.specs.Reading.{words_step, lines_from, resolved_cell, library_from, library_of}
use Rattle.ca_spice.specs.Writing.{spaced, line_of, pin_names, pin_word, rail_name, bulk_of, model_of}
use Rattle.ca_spice.specs.Writing.{size_word, mos_words, resistor_words, words_by, device_words, device_line}
use Rattle.ca_spice.specs.Writing.{cell_text, kept_as, IsReadable}
use Rattle.ca_spice.proofs.PinLemmas.{left_true, right_true}
use Rattle.ca_spice.proofs.SpelledLemmas.{HasNoComment, IsSpelled}
use Rattle.ca_spice.proofs.SizeLemmas.{value_shown, value_text, width_words, channel_words}
use Rattle.ca_spice.proofs.WrittenLemmas.{IsChunk, chunk_of, chunks_of, body, body_shown, first_line}
use Rattle.ca_spice.proofs.WrittenLemmas.{line_words, spelled_alone, spelled_words, card_line, roles_line}
use Rattle.ca_spice.proofs.WrittenLemmas.{read_on, BeginsAnew, anew_at_card, anew_at_roles, card_read}
use Rattle.ca_spice.proofs.WrittenLemmas.{roles_read}
use Rattle.ca_spice.proofs.CardLemmas.{IsNameWord, net_at, net_named, HasNets, IsSize, IsTransistor}
use Rattle.ca_spice.proofs.CardLemmas.{IsCard, card_words, written_wiring, written_sizes, mos-written}
use Rattle.ca_spice.proofs.CardLemmas.{resistor-written}
use Rattle.ca_spice.proofs.DistinctLemmas.{AreDistinct, names_of, has_device-named, absent_before}
use Rattle.ca_spice.proofs.OrderLemmas.{MentionsAll, all_mentioned, AreOrdered, ordered_most, grown_again}
use Rattle.ca_spice.proofs.ResolvedLemmas.{resolved_same}
use Rattle.ca_spice.proofs.WritableLemmas.{open_with, IsWritable, bulk_named}
use Rattle.ca_spice.proofs.ReadableLemmas.{readable_writable}
use Rattle.ca_spice.proofs.RoleLemmas.{IsPinName, name_of, with_its_role, roles_read_again, pins_again}
use Rattle.ca_spice.proofs.RoleLemmas.{pin_chunks, pin_words, pin_texts}

-- the bytes of words that are spelled may be in words
spelled_texts : (words : List (List ℕ)) → AllByRecursion IsSpelled words → list_all is_text words ≡ true
spelled_texts [] all = refl
spelled_texts (word ∷ words) all = λ j. all.0.text j && spelled_texts words all.1 j

-- the words of a header are names
pin_named : (names : List (List ℕ)) → AllByRecursion IsSpelled names → list_all is_header_word names ≡ true → AllByRecursion IsPinName names
pin_named [] all header = tt
pin_named (name ∷ names) all header = (
  record { spelled = all.0; header = left_true (is_header_word name) (list_all is_header_word names) header },
  pin_named names all.1 (right_true (is_header_word name) (list_all is_header_word names) header),
)

pins_of_header : (name : List ℕ) (pins : List (List ℕ)) → is_header (name ∷ pins) ≡ true → AllByRecursion IsSpelled pins → AllByRecursion IsPinName pins
pins_of_header name [] header all = tt
pins_of_header name (pin ∷ pins) header all = pin_named (pin ∷ pins) all (right_true (is_header_word name) (list_all is_header_word (pin ∷ pins)) header)

some_pins : (name : List ℕ) (pins : List RawPin) → is_header (name ∷ pin_names pins) ≡ true → 1 ≤ length pins
some_pins name [] header = absurd cc
some_pins name (pin ∷ pins) header = omega arith

-- a role that some pin has gives the name of a pin
rail_named : (is_role : Role → Bool) (pins : List RawPin) → AllByRecursion IsPinName (pin_names pins) → (role_count is_role pins ≡ 0 → ⊥) → IsNameWord (rail_name is_role pins)
rail_named is_role [] all some = absurd (some refl)
rail_named is_role (pin ∷ pins) all some = by (is_role pin.role) refl (rail_named is_role pins all.1)
  where
    counted : is_role pin.role ≡ false → role_count is_role pins ≡ 0 → role_count is_role (pin ∷ pins) ≡ 0
    counted none zero_is =
        sum_by-cons (λ (p : RawPin). cond (is_role p.role) 1 0) pin pins
        ∙ ap (λ (x : Bool). cond x 1 0 + role_count is_role pins) none ∙ omega (arith, zero_is)

    by : (has : Bool) → is_role pin.role ≡ has → ((role_count is_role pins ≡ 0 → ⊥) → IsNameWord (rail_name is_role pins))
        → IsNameWord (unwrap_or (option_map (λ (p : RawPin). p.name) (cond has (Some pin) (find (λ (p : RawPin). is_role p.role) pins))) [])
    by true has later = record { spelled = all.0.spelled; name = name_of pin.name all.0 }
    by false has later = later (λ (none : role_count is_role pins ≡ 0). some (counted has none))

-- the name of a device begins a card
record BeginsCard (word : List ℕ) : Type 0 where
  letter : ℕ
  more : List ℕ
  is : word ≡ letter ∷ more
  blank : is_blank letter ≡ false
  star : eqb letter 42 ≡ false
  plus : eqb letter 43 ≡ false

-- the name of a transistor begins with M
begins_m : (word : List ℕ) → card_of word ≡ card.Mos → BeginsCard word
unfolding card_of card_by_letter is_ignored
begins_m [] is = absurd cc
begins_m (letter ∷ word) is =
    by (bytes_eq (letter ∷ word) (codes ".SUBCKT")) (bytes_eq (letter ∷ word) (codes ".ENDS")) (bytes_eq (letter ∷ word) (codes "*.PININFO")) (is_ignored (letter ∷ word))
    (eqb letter 77) (eqb letter 82) (eqb letter 67 || eqb letter 68) (eqb letter 43) refl is
  where
    by : (header end roles ignored m r other plus : Bool) → eqb letter 77 ≡ m
        → cond header card.Subckt (cond end card.Ends (cond roles card.PinInfo (cond ignored card.Ignored
        (cond m card.Mos (cond r card.Resistor (cond other card.Ignored (cond plus card.Stray card.Unknown))))))) ≡ card.Mos → BeginsCard (letter ∷ word)
    by true end roles ignored m r other plus m_is is = absurd cc
    by false true roles ignored m r other plus m_is is = absurd cc
    by false false true ignored m r other plus m_is is = absurd cc
    by false false false true m r other plus m_is is = absurd cc
    by false false false false true r other plus m_is is =
        record { letter = 77; more = word; is = ap (λ (l : ℕ). l ∷ word) (eqb-true letter 77 m_is); blank = refl; star = refl; plus = refl }
    by false false false false false true other plus m_is is = absurd cc
    by false false false false false false true plus m_is is = absurd cc
    by false false false false false false false true m_is is = absurd cc
    by false false false false false false false false m_is is = absurd cc

-- and that of a resistor with R
begins_r : (word : List ℕ) → card_of word ≡ card.Resistor → BeginsCard word
unfolding card_of card_by_letter is_ignored
begins_r [] is = absurd cc
begins_r (letter ∷ word) is =
    by (bytes_eq (letter ∷ word) (codes ".SUBCKT")) (bytes_eq (letter ∷ word) (codes ".ENDS")) (bytes_eq (letter ∷ word) (codes "*.PININFO")) (is_ignored (letter ∷ word))
    (eqb letter 77) (eqb letter 82) (eqb letter 67 || eqb letter 68) (eqb letter 43) refl is
  where
    by : (header end roles ignored m r other plus : Bool) → eqb letter 82 ≡ r
        → cond header card.Subckt (cond end card.Ends (cond roles card.PinInfo (cond ignored card.Ignored
        (cond m card.Mos (cond r card.Resistor (cond other card.Ignored (cond plus card.Stray card.Unknown))))))) ≡ card.Resistor → BeginsCard (letter ∷ word)
    by true end roles ignored m r other plus r_is is = absurd cc
    by false true roles ignored m r other plus r_is is = absurd cc
    by false false true ignored m r other plus r_is is = absurd cc
    by false false false true m r other plus r_is is = absurd cc
    by false false false false true r other plus r_is is = absurd cc
    by false false false false false true other plus r_is is =
        record { letter = 82; more = word; is = ap (λ (l : ℕ). l ∷ word) (eqb-true letter 82 r_is); blank = refl; star = refl; plus = refl }
    by false false false false false false true plus r_is is = absurd cc
    by false false false false false false false true r_is is = absurd cc
    by false false false false false false false false r_is is = absurd cc

begins_card : (table : StrengthTable) (device : RawDevice) → IsCard table device → BeginsCard device.name
begins_card table device it = elim it.kept [
  | inl transistor ↦ begins_m device.name transistor.mos
  | inr resistor ↦ begins_r device.name resistor.resistor
]

named_line : (name more : List ℕ) → BeginsCard name → HasNoComment true (name ++ more) → physical_of (name ++ more) ≡ Card (name ++ more)
named_line name more it shown =
    let P : List ℕ → Type 0 = λ text. HasNoComment true (text ++ more) → physical_of (text ++ more) ≡ Card (text ++ more) in
    (subst P (sym it.is) (card_line it.letter (it.more ++ more) it.blank it.star it.plus)) shown

-- the model of a transistor is a word
model_spelled : (k : DeviceKind) → (k ≡ kind.P) ⊎ (k ≡ kind.N) → IsSpelled (model_of k)
model_spelled k (inl is) =
    subst (λ (k : DeviceKind). IsSpelled (model_of k)) (sym is) (record { one = inr (refl, (refl, (refl, tt))); shown = (refl, (refl, (refl, tt))); upper = refl; text = refl })
model_spelled k (inr is) =
    subst (λ (k : DeviceKind). IsSpelled (model_of k)) (sym is) (record { one = inr (refl, (refl, (refl, tt))); shown = (refl, (refl, (refl, tt))); upper = refl; text = refl })

-- so is the further word of an R card
further_spelled : IsSpelled (codes "1")
further_spelled = record { one = inr (refl, tt); shown = (refl, tt); upper = refl; text = refl }

few : (size : ℕ) → IsSize size → size < 10 ^ 64
few size it = omega (arith, it.most)

width_chunk : (size : ℕ) → IsSize size → IsChunk (size_word (codes "W=") size)
width_chunk size it = record {
  shown = (refl, (refl, value_shown size (few size it)));
  text = λ j. true && (true && value_text size (codes "e-18") (few size it) refl j);
}

channel_chunk : (size : ℕ) → IsSize size → IsChunk (size_word (codes "L=") size)
channel_chunk size it = record {
  shown = (refl, (refl, value_shown size (few size it)));
  text = λ j. true && (true && value_text size (codes "e-18") (few size it) refl j);
}

mos_chunks : (nets : List (List ℕ)) (bulk : List ℕ) (device : RawDevice) → IsTransistor device → HasNets nets device → IsNameWord bulk
    → AllByRecursion IsChunk (mos_words nets bulk device)
mos_chunks nets bulk device it on bulk_is = (
  chunk_of _ (net_named nets device.drain on.drain).spelled,
  (
    chunk_of _ (net_named nets device.gate on.gate).spelled,
    (
      chunk_of _ (net_named nets device.source on.source).spelled,
      (chunk_of _ bulk_is.spelled, (chunk_of _ (model_spelled device.kind it.kind), (width_chunk device.width.0 it.width, (channel_chunk device.length.0 it.channel, tt)))),
    ),
  ),
)

resistor_chunks : (nets : List (List ℕ)) (device : RawDevice) → HasNets nets device → AllByRecursion IsChunk (resistor_words nets device)
resistor_chunks nets device on = (
  chunk_of _ (net_named nets device.drain on.drain).spelled,
  (chunk_of _ (net_named nets device.source on.source).spelled, (chunk_of _ further_spelled, tt)),
)

-- the words of an M card that was written
mos_read : (nets : List (List ℕ)) (bulk : List ℕ) (device : RawDevice) → IsNameWord device.name → IsTransistor device → HasNets nets device → IsNameWord bulk
    → words_of (upper_case (body device.name (mos_words nets bulk device))) ≡ device.name ∷ card_words nets bulk device
mos_read nets bulk device named it on bulk_is =
    let name = spelled_alone device.name named.spelled in
    let drain = spelled_alone _ (net_named nets device.drain on.drain).spelled in
    let gate = spelled_alone _ (net_named nets device.gate on.gate).spelled in
    let source = spelled_alone _ (net_named nets device.source on.source).spelled in
    let rail = spelled_alone bulk bulk_is.spelled in
    let model = spelled_alone _ (model_spelled device.kind it.kind) in
    let width = width_words device.width.0 (few device.width.0 it.width) in
    let channel = channel_words device.length.0 (few device.length.0 it.channel) in
    line_words device.name (mos_words nets bulk device)
    ∙ (λ j. name j ++ (drain j ++ (gate j ++ (source j ++ (rail j ++ (model j ++ (width j ++ (channel j ++ []))))))))

mos_texts : (nets : List (List ℕ)) (bulk : List ℕ) (device : RawDevice) → IsNameWord device.name → IsTransistor device → HasNets nets device → IsNameWord bulk
    → list_all is_text (device.name ∷ card_words nets bulk device) ≡ true
mos_texts nets bulk device named it on bulk_is =
    let drain = (net_named nets device.drain on.drain).spelled.text in
    let gate = (net_named nets device.gate on.gate).spelled.text in
    let source = (net_named nets device.source on.source).spelled.text in
    let model = (model_spelled device.kind it.kind).text in
    let width = value_text device.width.0 (codes "E-18") (few device.width.0 it.width) refl in
    let channel = value_text device.length.0 (codes "E-18") (few device.length.0 it.channel) refl in
    λ j. named.spelled.text j && (drain j && (gate j && (source j && (bulk_is.spelled.text j && (model j && (true && (true && (width j && (true && (true && (channel j && true)))))))))))

-- and of an R card
resistor_read : (nets : List (List ℕ)) (device : RawDevice) → IsNameWord device.name → HasNets nets device
    → words_of (upper_case (body device.name (resistor_words nets device))) ≡ device.name ∷ resistor_words nets device
resistor_read nets device named on =
    let name = spelled_alone device.name named.spelled in
    let drain = spelled_alone _ (net_named nets device.drain on.drain).spelled in
    let source = spelled_alone _ (net_named nets device.source on.source).spelled in
    let further = spelled_alone (codes "1") further_spelled in
    line_words device.name (resistor_words nets device) ∙ (λ j. name j ++ (drain j ++ (source j ++ (further j ++ []))))

resistor_texts : (nets : List (List ℕ)) (device : RawDevice) → IsNameWord device.name → HasNets nets device
    → list_all is_text (device.name ∷ resistor_words nets device) ≡ true
resistor_texts nets device named on =
    let drain = (net_named nets device.drain on.drain).spelled.text in
    let source = (net_named nets device.source on.source).spelled.text in
    λ j. named.spelled.text j && (drain j && (source j && true))

-- the words that the card of a device of this kind reads as, after the device's name
abbrev read_words : DeviceKind → List (List ℕ) → List ℕ → RawDevice → List (List ℕ)
read_words kind.P nets bulk device = card_words nets bulk device
read_words kind.N nets bulk device = card_words nets bulk device
read_words kind.D nets bulk device = resistor_words nets device

mos_written : (k : DeviceKind) (nets : List (List ℕ)) (bulk : List ℕ) (device : RawDevice) → (k ≡ kind.P) ⊎ (k ≡ kind.N) → words_by k nets bulk device ≡ mos_words nets bulk device
mos_written k nets bulk device (inl is) = ap (λ (k : DeviceKind). words_by k nets bulk device) is
mos_written k nets bulk device (inr is) = ap (λ (k : DeviceKind). words_by k nets bulk device) is

mos_words_read : (k : DeviceKind) (nets : List (List ℕ)) (bulk : List ℕ) (device : RawDevice) → (k ≡ kind.P) ⊎ (k ≡ kind.N) → read_words k nets bulk device ≡ card_words nets bulk device
mos_words_read k nets bulk device (inl is) = ap (λ (k : DeviceKind). read_words k nets bulk device) is
mos_words_read k nets bulk device (inr is) = ap (λ (k : DeviceKind). read_words k nets bulk device) is

-- the words of the card of a device that was written
device_chunks : (table : StrengthTable) → (nets : List (List ℕ)) (p_bulk n_bulk : List ℕ) (device : RawDevice) → IsCard table device → HasNets nets device
    → IsNameWord p_bulk → IsNameWord n_bulk → AllByRecursion IsChunk (device_words nets (bulk_of p_bulk n_bulk device.kind) device)
device_chunks table nets p_bulk n_bulk device it on p_is n_is = elim it.kept [
  | inl mos ↦
      subst (AllByRecursion IsChunk) (sym (mos_written device.kind nets (bulk_of p_bulk n_bulk device.kind) device mos.kind))
      (mos_chunks nets (bulk_of p_bulk n_bulk device.kind) device mos on (bulk_named p_bulk n_bulk device.kind mos.kind p_is n_is))
  | inr resistor ↦
      subst (AllByRecursion IsChunk) (sym (ap (λ (k : DeviceKind). words_by k nets (bulk_of p_bulk n_bulk device.kind) device) resistor.kind))
      (resistor_chunks nets device on)
]

device_read : (table : StrengthTable) → (nets : List (List ℕ)) (p_bulk n_bulk : List ℕ) (device : RawDevice) → IsCard table device → HasNets nets device
    → IsNameWord p_bulk → IsNameWord n_bulk
    → words_of (upper_case (body device.name (device_words nets (bulk_of p_bulk n_bulk device.kind) device)))
    ≡ device.name ∷ read_words device.kind nets (bulk_of p_bulk n_bulk device.kind) device
device_read table nets p_bulk n_bulk device it on p_is n_is = elim it.kept [
  | inl mos ↦
      ap (λ (words : List (List ℕ)). words_of (upper_case (body device.name words))) (mos_written device.kind nets (bulk_of p_bulk n_bulk device.kind) device mos.kind)
      ∙ mos_read nets (bulk_of p_bulk n_bulk device.kind) device it.named mos on (bulk_named p_bulk n_bulk device.kind mos.kind p_is n_is)
      ∙ ap (λ (words : List (List ℕ)). device.name ∷ words) (sym (mos_words_read device.kind nets (bulk_of p_bulk n_bulk device.kind) device mos.kind))
  | inr resistor ↦
      ap (λ (k : DeviceKind). words_of (upper_case (body device.name (words_by k nets (bulk_of p_bulk n_bulk device.kind) device)))) resistor.kind
      ∙ resistor_read nets device it.named on
      ∙ ap (λ (k : DeviceKind). device.name ∷ read_words k nets (bulk_of p_bulk n_bulk device.kind) device) (sym resistor.kind)
]

-- the words of a card make what its step makes
mos_made : (table : StrengthTable) → (number : ℕ) (word : List ℕ) (words : List (List ℕ)) (reading : Reading) (cell next : OpenCell) → card_of word ≡ card.Mos → list_all is_text (word ∷ words) ≡ true
    → mos table word words cell ≡ Ok next → words_step table number (word ∷ words) (with_open reading cell) ≡ Ok (with_open reading next)
unfolding words_step card_step
mos_made table number word words reading cell next is text read =
    ap (λ (k : cards.Card). cond (is_comment k (with_open reading cell)) (Ok (with_open reading cell)) (judged table k number word words (with_open reading cell))) is
    ∙ ap (λ (x : Bool). unless (not x) NotText (in_cell (mos table word words) (with_open reading cell))) text
    ∙ ap (goes_on (with_open reading cell)) read

resistor_made : (table : StrengthTable) → (number : ℕ) (word : List ℕ) (words : List (List ℕ)) (reading : Reading) (cell next : OpenCell) → card_of word ≡ card.Resistor
    → list_all is_text (word ∷ words) ≡ true → resistor table word words cell ≡ Ok next
    → words_step table number (word ∷ words) (with_open reading cell) ≡ Ok (with_open reading next)
unfolding words_step card_step
resistor_made table number word words reading cell next is text read =
    ap (λ (k : cards.Card). cond (is_comment k (with_open reading cell)) (Ok (with_open reading cell)) (judged table k number word words (with_open reading cell))) is
    ∙ ap (λ (x : Bool). unless (not x) NotText (in_cell (resistor table word words) (with_open reading cell))) text
    ∙ ap (goes_on (with_open reading cell)) read

device_made : (table : StrengthTable) → (number : ℕ) (nets : List (List ℕ)) (p_bulk n_bulk : List ℕ) (device : RawDevice) (reading : Reading) (cell : OpenCell) → IsCard table device
    → HasNets nets device → IsNameWord p_bulk → IsNameWord n_bulk → has_device device.name cell.devices ≡ false
    → words_step table number (device.name ∷ read_words device.kind nets (bulk_of p_bulk n_bulk device.kind) device) (with_open reading cell)
    ≡ Ok (with_open reading (with_device table device.name (written_wiring nets device) (written_sizes device) cell))
device_made table number nets p_bulk n_bulk device reading cell it on p_is n_is new = elim it.kept [
  | inl transistor ↦
      let bulk : IsNameWord (bulk_of p_bulk n_bulk device.kind) = bulk_named p_bulk n_bulk device.kind transistor.kind p_is n_is in
      ap (λ (words : List (List ℕ)). words_step table number (device.name ∷ words) (with_open reading cell))
      (mos_words_read device.kind nets (bulk_of p_bulk n_bulk device.kind) device transistor.kind)
      ∙ mos_made table number device.name (card_words nets (bulk_of p_bulk n_bulk device.kind) device) reading cell
      (with_device table device.name (written_wiring nets device) (written_sizes device) cell) transistor.mos
      (mos_texts nets (bulk_of p_bulk n_bulk device.kind) device it.named transistor on bulk)
      (mos-written table nets (bulk_of p_bulk n_bulk device.kind) device cell it.named transistor on bulk new)
  | inr ends ↦
      ap (λ (k : DeviceKind). words_step table number (device.name ∷ read_words k nets (bulk_of p_bulk n_bulk device.kind) device) (with_open reading cell)) ends.kind
      ∙ resistor_made table number device.name (resistor_words nets device) reading cell
      (with_device table device.name (written_wiring nets device) (written_sizes device) cell) ends.resistor
      (resistor_texts nets device it.named on) (resistor-written table nets device cell it.named ends on new)
]

-- the text of a device's line is its first line
device_first : (table : StrengthTable) → (p_bulk n_bulk : List ℕ) (nets : List (List ℕ)) (device : RawDevice) (rest : List ℕ) → IsCard table device → HasNets nets device
    → IsNameWord p_bulk → IsNameWord n_bulk
    → lines_of (device_line p_bulk n_bulk nets device ++ rest) ≡ body device.name (device_words nets (bulk_of p_bulk n_bulk device.kind) device) ∷ lines_of rest
device_first table p_bulk n_bulk nets device rest it on p_is n_is =
    first_line device.name (device_words nets (bulk_of p_bulk n_bulk device.kind) device) rest (chunk_of device.name it.named.spelled)
    (device_chunks table nets p_bulk n_bulk device it on p_is n_is)

device_physical : (table : StrengthTable) → (p_bulk n_bulk : List ℕ) (nets : List (List ℕ)) (device : RawDevice) → IsCard table device → HasNets nets device
    → IsNameWord p_bulk → IsNameWord n_bulk
    → physical_of (body device.name (device_words nets (bulk_of p_bulk n_bulk device.kind) device)) ≡ Card (body device.name (device_words nets (bulk_of p_bulk n_bulk device.kind) device))
device_physical table p_bulk n_bulk nets device it on p_is n_is =
    named_line device.name (flat_map spaced (device_words nets (bulk_of p_bulk n_bulk device.kind) device)) (begins_card table device it)
    (body_shown device.name (device_words nets (bulk_of p_bulk n_bulk device.kind) device) (chunk_of device.name it.named.spelled)
    (device_chunks table nets p_bulk n_bulk device it on p_is n_is))

-- the nets of devices that mention them in order have names
nets_of : (nets : List (List ℕ)) (before : ℕ) (device : RawDevice) (next : ℕ) → AllByRecursion IsNameWord nets → MentionsAll before device next → next ≤ length nets
    → HasNets nets device
nets_of nets before device next named all few =
    let within = (all_mentioned before device next all).1 in
    let drain = within.drain in
    let gate = within.gate in
    let source = within.source in
    record {
      drain = net_at nets device.drain named (omega (arith, drain, few));
      gate = net_at nets device.gate named (omega (arith, gate, few));
      source = net_at nets device.source named (omega (arith, source, few));
    }

devices_anew : (table : StrengthTable) → (p_bulk n_bulk : List ℕ) (nets : List (List ℕ)) (devices : List RawDevice) (rest : List ℕ) (before : ℕ)
    → AllByRecursion (IsCard table) devices → AllByRecursion IsNameWord nets → AreOrdered before devices (length nets) → IsNameWord p_bulk → IsNameWord n_bulk
    → BeginsAnew rest → BeginsAnew (flat_map (device_line p_bulk n_bulk nets) devices ++ rest)
devices_anew table p_bulk n_bulk nets [] rest before all named order p_is n_is anew = anew
devices_anew table p_bulk n_bulk nets (device ∷ devices) rest before all named order p_is n_is anew =
    let following : List ℕ = flat_map (device_line p_bulk n_bulk nets) devices ++ rest in
    let on : HasNets nets device = nets_of nets before device order.0 named order.1 (ordered_most order.0 devices (length nets) order.2) in
    subst BeginsAnew (sym (append_assoc (device_line p_bulk n_bulk nets device) (flat_map (device_line p_bulk n_bulk nets) devices) rest))
    (anew_at_card (device_line p_bulk n_bulk nets device ++ following) (body device.name (device_words nets (bulk_of p_bulk n_bulk device.kind) device)) (lines_of following)
    (device_first table p_bulk n_bulk nets device following all.0 on p_is n_is) (device_physical table p_bulk n_bulk nets device all.0 on p_is n_is))

-- a device's name is new after those before it
new_after : (done : List RawDevice) (device : RawDevice) (devices : List RawDevice) → AreDistinct (names_of (done ++ device ∷ devices)) → has_device device.name done ≡ false
new_after done device devices distinct =
    has_device-named device.name done
    ∙ absent_before (names_of done) device.name (names_of devices)
    (subst AreDistinct (map-append (λ (d : RawDevice). d.name) done (device ∷ devices)) distinct)

-- the lines of devices add them
devices_read : (table : StrengthTable) → (p_bulk n_bulk : List ℕ) (nets : List (List ℕ)) (line : ℕ) (name : List ℕ) (pins : List Pin) (rest : List ℕ) (reading : Reading)
    (total : Result Reading SpiceFault) → IsNameWord p_bulk → IsNameWord n_bulk → AllByRecursion IsNameWord nets → AreDistinct nets → BeginsAnew rest
    → (done devices : List RawDevice) (before : ℕ) → AllByRecursion (IsCard table) devices → AreOrdered before devices (length nets) → AreDistinct (names_of (done ++ devices))
    → ((number : ℕ) (follows : Bool) → read_on table (with_open reading (open_with line name pins nets (done ++ devices))) number follows rest ≡ total)
    → (number : ℕ) (follows : Bool)
    → read_on table (with_open reading (open_with line name pins (take before nets) done)) number follows (flat_map (device_line p_bulk n_bulk nets) devices ++ rest) ≡ total
devices_read table p_bulk n_bulk nets line name pins rest reading total p_is n_is named distinct anew done [] before all order names ends_so number follows =
    (λ j. read_on table (with_open reading (open_with line name pins (whole j) (sym (append-nil done) j))) number follows rest) ∙ ends_so number follows
  where
    whole : take before nets ≡ nets
    whole = ap (λ (count : ℕ). take count nets) order ∙ take-length nets
devices_read table p_bulk n_bulk nets line name pins rest reading total p_is n_is named distinct anew done (device ∷ devices) before all order names ends_so number follows =
    ap (read_on table (with_open reading cell) number follows) (append_assoc (device_line p_bulk n_bulk nets device) (flat_map (device_line p_bulk n_bulk nets) devices) rest)
    ∙ card_read table (with_open reading cell) (with_open reading next) number follows (device_line p_bulk n_bulk nets device ++ following)
    (body device.name (device_words nets (bulk_of p_bulk n_bulk device.kind) device)) following (device_first table p_bulk n_bulk nets device following all.0 on p_is n_is)
    (device_physical table p_bulk n_bulk nets device all.0 on p_is n_is)
    (devices_anew table p_bulk n_bulk nets devices rest order.0 all.1 named order.2 p_is n_is anew) made
    ∙ devices_read table p_bulk n_bulk nets line name pins rest reading total p_is n_is named distinct anew (done ++ device ∷ []) devices order.0 all.1 order.2
    (subst (λ (all : List RawDevice). AreDistinct (names_of all)) (sym joined) names)
    (subst (λ (all : List RawDevice). (number : ℕ) (follows : Bool) → read_on table (with_open reading (open_with line name pins nets all)) number follows rest ≡ total) (sym joined) ends_so)
    (number + 1) true
  where
    cell : OpenCell
    cell = open_with line name pins (take before nets) done

    next : OpenCell
    next = open_with line name pins (take order.0 nets) (done ++ device ∷ [])

    following : List ℕ
    following = flat_map (device_line p_bulk n_bulk nets) devices ++ rest

    joined : (done ++ device ∷ []) ++ devices ≡ done ++ device ∷ devices
    joined = append_assoc done (device ∷ []) devices

    on : HasNets nets device
    on = nets_of nets before device order.0 named order.1 (ordered_most order.0 devices (length nets) order.2)

    made : words_step table number (words_of (upper_case (body device.name (device_words nets (bulk_of p_bulk n_bulk device.kind) device)))) (with_open reading cell)
        ≡ Ok (with_open reading next)
    made =
        ap (λ (words : List (List ℕ)). words_step table number words (with_open reading cell)) (device_read table nets p_bulk n_bulk device all.0 on p_is n_is)
        ∙ device_made table number nets p_bulk n_bulk device reading cell all.0 on p_is n_is (new_after done device devices names)
        ∙ ap (λ (c : OpenCell). Ok (with_open reading c)) (grown_again table nets device before order.0 line name pins done distinct on all.0.strong order.1)

-- the line that begins a subcircuit
header_made : (table : StrengthTable) → (name : List ℕ) (pins : List (List ℕ)) → is_header (name ∷ pins) ≡ true → has_double pins ≡ false → list_all is_text (name ∷ pins) ≡ true
    → words_step table 1 (codes ".SUBCKT" ∷ name ∷ pins) nothing ≡ Ok (with_open nothing (new_cell 1 name pins))
unfolding words_step card_step subckt named card_of
header_made table name pins header distinct text =
    ap (λ (x : Bool). unless (not (true && x)) NotText (subckt 1 (name ∷ pins) nothing)) text
    ∙ ap (λ (x : Bool). unless (not (is_outside nothing) || not x) BadCard (named 1 name pins nothing)) header
    ∙ ap (λ (x : Bool). unless (false || x) DoubleName (Ok (with_open nothing (new_cell 1 name pins)))) distinct

-- the line of the roles
roles_made : (table : StrengthTable) → (cell : OpenCell) (words : List (List ℕ)) (pins : List Pin) (number : ℕ) → list_all is_text words ≡ true → info.pin_info cell.nets words cell.pins ≡ Ok pins
    → words_step table number (codes "*.PININFO" ∷ words) (with_open nothing cell) ≡ Ok (with_open nothing (open_with cell.line cell.name pins cell.nets cell.devices))
unfolding words_step card_step card_of pin_info
roles_made table cell words pins number text read =
    ap (λ (x : Bool). unless (not (true && x)) NotText (in_cell (pin_info words) (with_open nothing cell))) text
    ∙ ap (λ (given : Result (List Pin) SpiceKind). goes_on (with_open nothing cell) (has_roles cell given)) read

-- the line that ends a subcircuit
ends_made : (table : StrengthTable) → (number line : ℕ) (name : List ℕ) (pins : List RawPin) (nets : List (List ℕ)) (devices : List RawDevice)
    → words_step table number (codes ".ENDS" ∷ []) (with_open nothing (open_with line name (map with_its_role pins) nets devices))
    ≡ Ok (record { cells = record { name = name; raw = record { pins = pins; nets = nets; devices = devices } } ∷ []; current = None })
unfolding words_step card_step ends ended card_of
ends_made table number line name pins nets devices =
    ap (λ (given : Option (List RawPin)). with_cell (with_open nothing (open_with line name (map with_its_role pins) nets devices))
    (subcircuit_with (open_with line name (map with_its_role pins) nets devices) given)) (pins_again [] pins)

end_line : (text : List ℕ) → text ≡ codes ".ENDS\n" → lines_of text ≡ codes ".ENDS" ∷ lines_of []
unfolding lines_of
end_line text is = ap lines_of is

end_words : words_of (upper_case (codes ".ENDS")) ≡ codes ".ENDS" ∷ []
unfolding words_of
end_words = refl

read_out : (table : StrengthTable) → (reading : Reading) (number : ℕ) (follows : Bool) → read_on table reading number follows [] ≡ Ok reading
unfolding lines_of logical_from steps_from
read_out table reading number follows = refl

anew_at_end : BeginsAnew []
unfolding lines_of continued
anew_at_end = refl

ends_card : physical_of (codes ".ENDS") ≡ Card (codes ".ENDS")
ends_card = card_line 46 (codes "ENDS") refl refl refl (refl, (refl, (refl, (refl, (refl, tt)))))

ends_read : (table : StrengthTable) → (number : ℕ) (follows : Bool) (line : ℕ) (name : List ℕ) (pins : List RawPin) (nets : List (List ℕ)) (devices : List RawDevice)
    → read_on table (with_open nothing (open_with line name (map with_its_role pins) nets devices)) number follows (line_of (codes ".ENDS") [])
    ≡ Ok (record { cells = record { name = name; raw = record { pins = pins; nets = nets; devices = devices } } ∷ []; current = None })
ends_read table number follows line name pins nets devices =
    let last : Reading = record { cells = record { name = name; raw = record { pins = pins; nets = nets; devices = devices } } ∷ []; current = None } in
    card_read table (with_open nothing (open_with line name (map with_its_role pins) nets devices)) last number follows (line_of (codes ".ENDS") []) (codes ".ENDS") []
    (end_line (line_of (codes ".ENDS") []) refl) ends_card anew_at_end
    (ap (λ (words : List (List ℕ)). words_step table number words (with_open nothing (open_with line name (map with_its_role pins) nets devices))) end_words
    ∙ ends_made table number line name pins nets devices)
    ∙ read_out table last (number + 1) true

header_chunk : IsChunk (codes ".SUBCKT")
header_chunk = record { shown = (refl, (refl, (refl, (refl, (refl, (refl, (refl, tt))))))); text = refl }

header_words : words_of (upper_case (codes ".SUBCKT")) ≡ codes ".SUBCKT" ∷ []
unfolding words_of
header_words = refl

roles_chunk : IsChunk (codes "*.PININFO")
roles_chunk = record { shown = (refl, (refl, (refl, (refl, (refl, (refl, (refl, (refl, (refl, tt))))))))); text = refl }

roles_words : words_of (upper_case (codes "*.PININFO")) ≡ codes "*.PININFO" ∷ []
unfolding words_of
roles_words = refl

-- the line that begins a subcircuit, and what it makes
header_read : (table : StrengthTable) → (name : List ℕ) (pins : List (List ℕ)) (rest : List ℕ) → IsSpelled name → is_header (name ∷ pins) ≡ true → AllByRecursion IsSpelled pins → has_double pins ≡ false
    → BeginsAnew rest → read_on table nothing 1 false (line_of (codes ".SUBCKT") (name ∷ pins) ++ rest) ≡ read_on table (with_open nothing (new_cell 1 name pins)) 2 true rest
header_read table name pins rest name_is header all distinct anew =
    let chunks : AllByRecursion IsChunk (name ∷ pins) = chunks_of (name ∷ pins) (name_is, all) in
    let words : words_of (upper_case (body (codes ".SUBCKT") (name ∷ pins))) ≡ codes ".SUBCKT" ∷ name ∷ pins =
    line_words (codes ".SUBCKT") (name ∷ pins) ∙ (λ j. header_words j ++ spelled_words (name ∷ pins) (name_is, all) j) in
    card_read table nothing (with_open nothing (new_cell 1 name pins)) 1 false (line_of (codes ".SUBCKT") (name ∷ pins) ++ rest) (body (codes ".SUBCKT") (name ∷ pins)) rest
    (first_line (codes ".SUBCKT") (name ∷ pins) rest header_chunk chunks)
    (card_line 46 (codes "SUBCKT" ++ flat_map spaced (name ∷ pins)) refl refl refl (body_shown (codes ".SUBCKT") (name ∷ pins) header_chunk chunks)) anew
    (ap (λ (all : List (List ℕ)). words_step table 1 all nothing) words ∙ header_made table name pins header distinct (spelled_texts (name ∷ pins) (name_is, all)))

-- the line of the roles: where it is, and what it makes
roles_first_line : (pins : List RawPin) (rest : List ℕ) → AllByRecursion IsPinName (pin_names pins)
    → lines_of (line_of (codes "*.PININFO") (map pin_word pins) ++ rest) ≡ body (codes "*.PININFO") (map pin_word pins) ∷ lines_of rest
roles_first_line pins rest all = first_line (codes "*.PININFO") (map pin_word pins) rest roles_chunk (pin_chunks pins all)

roles_physical : (pins : List RawPin) → AllByRecursion IsPinName (pin_names pins)
    → physical_of (body (codes "*.PININFO") (map pin_word pins)) ≡ PinInfo (body (codes "*.PININFO") (map pin_word pins))
roles_physical pins all = roles_line (map pin_word pins) (body_shown (codes "*.PININFO") (map pin_word pins) roles_chunk (pin_chunks pins all))

roles_read_on : (table : StrengthTable) → (name : List ℕ) (pins : List RawPin) (rest : List ℕ) → 1 ≤ length pins → AllByRecursion IsPinName (pin_names pins) → has_double (pin_names pins) ≡ false
    → read_on table (with_open nothing (new_cell 1 name (pin_names pins))) 2 true (line_of (codes "*.PININFO") (map pin_word pins) ++ rest)
    ≡ read_on table (with_open nothing (open_with 1 name (map with_its_role pins) (pin_names pins) [])) 3 false rest
roles_read_on table name pins rest some all distinct =
    let words : words_of (upper_case (body (codes "*.PININFO") (map pin_word pins))) ≡ codes "*.PININFO" ∷ map pin_word pins =
    line_words (codes "*.PININFO") (map pin_word pins) ∙ (λ j. roles_words j ++ pin_words pins all j) in
    let cell : OpenCell = new_cell 1 name (pin_names pins) in
    roles_read table (with_open nothing cell) (with_open nothing (open_with 1 name (map with_its_role pins) (pin_names pins) [])) 2 true
    (line_of (codes "*.PININFO") (map pin_word pins) ++ rest) (body (codes "*.PININFO") (map pin_word pins)) rest (roles_first_line pins rest all) (roles_physical pins all)
    (ap (λ (all : List (List ℕ)). words_step table 2 all (with_open nothing cell)) words
    ∙ roles_made table cell (map pin_word pins) (map with_its_role pins) 2 (pin_texts pins all) (roles_read_again pins some all distinct))

one_cell : (cell : Subcircuit) → library_from (Ok (record { cells = cell ∷ []; current = None })) ≡ Ok (resolved_cell cell ∷ [])
unfolding library_from
one_cell cell = refl

-- a subcircuit that can be written is read as it was
writable_again : (table : StrengthTable) → (name : List ℕ) (raw : RawCell) → IsWritable table name (pin_names raw.pins) raw.nets raw.devices → KeepsRules raw
    → library_of table (cell_text name raw) ≡ Ok (record { name = name; raw = raw } ∷ [])
unfolding cell_text
writable_again table name raw it keeps =
    let names : AllByRecursion IsPinName (pin_names raw.pins) = pins_of_header name (pin_names raw.pins) it.header it.spelled in
    let p_is : IsNameWord (rail_name is_power raw.pins) = rail_named is_power raw.pins names (λ (none : role_count is_power raw.pins ≡ 0). keeps NoRail (inl none)) in
    let n_is : IsNameWord (rail_name is_ground raw.pins) = rail_named is_ground raw.pins names (λ (none : role_count is_ground raw.pins ≡ 0). keeps NoRail (inr none)) in
    let end : List ℕ = line_of (codes ".ENDS") [] in
    let devices : List ℕ = flat_map (device_line (rail_name is_power raw.pins) (rail_name is_ground raw.pins) raw.nets) raw.devices ++ end in
    let roles : List ℕ = line_of (codes "*.PININFO") (map pin_word raw.pins) ++ devices in
    let last : Reading = record { cells = record { name = name; raw = raw } ∷ []; current = None } in
    let anew : BeginsAnew end = anew_at_card end (codes ".ENDS") (lines_of []) (end_line end refl) ends_card in
    let first : take (length (pin_names raw.pins)) raw.nets ≡ pin_names raw.pins =
    ap (take (length (pin_names raw.pins))) it.names.pins_first.is ∙ take_at (pin_names raw.pins) it.names.pins_first.more (length (pin_names raw.pins)) refl in
    let read_devices : read_on table (with_open nothing (open_with 1 name (map with_its_role raw.pins) (pin_names raw.pins) [])) 3 false devices ≡ Ok last =
    ap (λ (nets : List (List ℕ)). read_on table (with_open nothing (open_with 1 name (map with_its_role raw.pins) nets [])) 3 false devices) (sym first)
    ∙ devices_read table (rail_name is_power raw.pins) (rail_name is_ground raw.pins) raw.nets 1 name (map with_its_role raw.pins) end nothing (Ok last) p_is n_is it.names.named
    it.names.nets_distinct anew [] raw.devices (length (pin_names raw.pins)) it.cards it.order it.names.devices_distinct
    (λ (number : ℕ) (follows : Bool). ends_read table number follows 1 name raw.pins raw.nets raw.devices) 3 false in
    let read : lines_from table nothing (spice_lines (cell_text name raw)) ≡ Ok last =
    header_read table name (pin_names raw.pins) roles it.named it.header it.spelled it.distinct
    (anew_at_roles roles (body (codes "*.PININFO") (map pin_word raw.pins)) (lines_of devices) (roles_first_line raw.pins devices names) (roles_physical raw.pins names))
    ∙ roles_read_on table name raw.pins devices (some_pins name raw.pins it.header) names it.distinct ∙ read_devices in
    ap library_from read ∙ one_cell (record { name = name; raw = raw })
    ∙ ap (λ (cell : RawCell). Ok (record { name = name; raw = cell } ∷ [])) (resolved_same raw keeps)

-- a cell that some text reads as is read alone, under the same name, from the text that is written
pub read_again : (table : StrengthTable) → (name : List ℕ) (raw : RawCell) → IsReadable table name raw → KeepsRules raw → library_of table (cell_text (upper_case name) raw) ≡ Ok (kept_as name raw ∷ [])
read_again table name raw it keeps = writable_again table (upper_case name) raw (readable_writable table name raw it) keeps

-- so is the text of a call that gives one
pub read_written : {E : Type 0} (result : Result (List ℕ) E) (name : List ℕ) (raw cell : RawCell) → raw ≡ cell → IfOk result (λ text. text ≡ cell_text (upper_case name) raw)
    → KeepsRules cell → IfOk result (λ text. (table : StrengthTable) → IsReadable table name cell → library_of table text ≡ Ok (kept_as name cell ∷ []))
read_written (Ok text) name raw cell same is keeps = λ table it.
    ap (library_of table) (is ∙ ap (cell_text (upper_case name)) same) ∙ read_again table name cell it keeps
read_written (Err fault) name raw cell same is keeps = tt
