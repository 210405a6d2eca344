-- The Pattern block: for each pair of vectors its statements.
use Rattle.std.specs.Prelude.{ℕ, ◌+◌, ◌==◌, Bool, List, [], ◌∷◌, ◌++◌, length, map, take, drop}
use Rattle.std.specs.Prelude.{replicate, codes, decimal, if◌then◌else◌}
use Rattle.ca_net.specs.declared.trit.Trit.{Trit}
use Rattle.ca_net.specs.declared.trit.Trit.TheVariants.{Zero, One, X}
pub use Rattle.ca_stil.specs.Words.{digit_of, level_of}
use Rattle.ca_stil_form.specs.Form.{Token}
use Rattle.ca_stil_form.specs.Grammar.{Piece, fixed, blank, token, no_piece, ◌<>◌, pieces, Form, word}
use Rattle.ca_stil_form.specs.Grammar.{and_then, following, before, for_each}
use Rattle.ca_stil_form.specs.Frame.{Frame, Chain, Member, key_inputs, key_outputs, group_member}
use Rattle.ca_stil_form.specs.Frame.{load_members, unload_members, quoted}

-- the value that a letter stands for
abbrev pub level_at : ℕ → Trit
level_at byte = if byte == 76 then Zero else (if byte == 72 then One else X)

-- the bits of a member, after zeros that fill up
abbrev pub bits_word : Member → List Bool → Token
bits_word member bits = replicate member.filled 48 ++ map digit_of bits

abbrev pub bits_in : Member → Token → List Bool
bits_in member token = map (λ byte. byte == 49) (drop member.filled token)

-- the expected values of a member, before X that fill up
abbrev pub levels_word : Member → List Trit → Token
levels_word member levels = map level_of levels ++ replicate member.filled 88

abbrev pub levels_in : Member → Token → List Trit
levels_in member token = map level_at (take member.used token)

-- ` KEY=`
abbrev pub member_begins : Member → Piece
member_begins member = blank (codes " ") <> token member.key <> fixed (codes "=")

-- ` KEY=WORD;`
abbrev pub bits_form : Member → Form (List Bool)
bits_form member = following (member_begins member)
    (before (word (λ bits. length bits == member.used) (bits_word member) (bits_in member))
    (fixed (codes ";")))

abbrev pub levels_form : Member → Form (List Trit)
levels_form member = following (member_begins member)
    (before (word (λ levels. length levels == member.used) (levels_word member) (levels_in member))
    (fixed (codes ";")))

-- a member of the same letter throughout
abbrev pub steady : ℕ → Member → Piece
steady letter member =
    member_begins member <> token (replicate (member.filled + member.used) letter) <> fixed (codes ";")

-- the statement that loads or unloads the chains begins
abbrev pub shift_begins : Piece
shift_begins = fixed (codes "Macro \"_shift_\" {")

-- the first statement: of a chip with chains it loads them, of another one it applies the first vector
abbrev pub first_begins : List Chain → Piece
first_begins [] = fixed (codes "V {")
first_begins (chain ∷ chains) = shift_begins

-- a pair begins, with its label
abbrev pub pair_begins : Frame → ℕ → Piece
pair_begins frame number =
    blank (codes "  ") <> token (quoted (codes "pair " ++ decimal number)) <> fixed (codes ": ")
    <> first_begins frame.chains

-- after the bits of a load: nothing is compared, and a vector is applied
abbrev pub load_ends : List Chain → Piece
load_ends [] = no_piece
load_ends (chain ∷ chains) =
    pieces (steady 88) (unload_members (chain ∷ chains)) <> fixed (codes " }\n  V { \"_ctl_\"=000;")

-- after the first vector: nothing is observed, and the second state is loaded, or the second vector is
-- applied
abbrev pub first_ends : Frame → Piece
first_ends frame =
    pieces (steady 88) (group_member key_outputs frame.outputs) <> fixed (codes " }\n  ")
    <> first_begins frame.chains

-- after what is observed in the second vector: the cells capture, and zeros are shifted in
abbrev pub capture : List Member → List Chain → Piece
capture outputs [] = no_piece
capture outputs (chain ∷ chains) =
    fixed (codes "  V { \"_ctl_\"=0P1;") <> pieces (steady 88) outputs <> fixed (codes " }\n  ")
    <> shift_begins <> pieces (steady 48) (load_members (chain ∷ chains))

abbrev pub last_ends : Frame → Piece
last_ends frame = fixed (codes " }\n") <> capture (group_member key_outputs frame.outputs) frame.chains

-- after what is unloaded
abbrev pub unload_ends : List Chain → Piece
unload_ends [] = no_piece
unload_ends (chain ∷ chains) = fixed (codes " }\n")

-- the values of a pair in the order of the text: the first state, the first vector, the last state, the
-- last vector, the expected values at the ports, and those in the cells
abbrev pub PairValues : Type 0
PairValues =
    List (List Bool) × (List (List Bool)
    × (List (List Bool) × (List (List Bool) × (List (List Trit) × List (List Trit)))))

-- the statements of a pair
abbrev pub pair_form : Frame → ℕ → Form PairValues
pair_form frame number =
    following (pair_begins frame number)
    (and_then (for_each bits_form (load_members frame.chains)) (λ first_state.
    following (load_ends frame.chains)
    (and_then (for_each bits_form (group_member key_inputs frame.inputs)) (λ first.
    following (first_ends frame) (and_then (for_each bits_form (load_members frame.chains)) (λ last_state.
    following (load_ends frame.chains)
    (and_then (for_each bits_form (group_member key_inputs frame.inputs)) (λ last.
    and_then (for_each levels_form (group_member key_outputs frame.outputs)) (λ expected.
    following (last_ends frame)
    (before (for_each levels_form (unload_members frame.chains)) (unload_ends frame.chains)))))))))))
