-- What short files of events print, computed from the definitions.
use Rattle.std.proofs.Common.{◌≡◌, ℕ, List, ◌++◌, ◌∷◌, [], codes, None, refl}
use Rattle.std.specs.{Fmt.digits, List.flat_map, Str.is_utf8, Str.chars}
use lib.Utf8.{encode}
use Rattle.hex.specs.Hex.{decode_pairs, encode_with}
use Rattle.of_switch.{specs.State.start, proofs.OnLiterals.switch_on_literals}
use Rattle.of_replay.specs.{Lexing.lines_of_file, Rows.rows_of_lines, Output.printed_from}

-- a text of these lines, each ended by LF
abbrev pub text_of : List (List ℕ) → List ℕ
text_of lines = flat_map (λ line. line ++ 10 ∷ []) lines

-- a file of these lines is played, no line is bad, and lines are printed
abbrev pub Prints : List (List ℕ) → List (List ℕ) → Type 0
Prints events lines = ((rows_of_lines (lines_of_file (text_of events))).bad ≡ None) × (printed_from (start 1) (rows_of_lines (lines_of_file (text_of events))).events ≡ text_of lines)

abbrev pub hello : List (List ℕ)
hello = codes "connect" ∷ codes "c 0400000800000001" ∷ []

abbrev pub answered_hello : List ℕ
answered_hello = codes "a 04000010000000000001000800000010"

abbrev pub three_ports : List (List ℕ)
three_ports = codes "port add 1 0200000000a1 p1 up" ∷ codes "port add 2 0200000000a2 p2 up" ∷ codes "port add 3 0200000000a3 p3 up" ∷ []

-- the switch sends its HELLO on connecting, and answers nothing to that of the controller
pub hello_is_answered : Prints hello (answered_hello ∷ [])
unfolding switch_on_literals is_utf8 chars encode decode_pairs encode_with digits
hello_is_answered = (refl, refl)

-- a header whose length is below 8 is answered by an error, and the connection ends
pub bad_length_ends_the_connection : Prints
    (three_ports ++ hello ++ codes "c 0405000700000008" ∷ codes "c 04020008000000ee" ∷ [])
    (answered_hello ∷ codes "a 0401001400000008000100060405000700000008" ∷ codes "closed" ∷ codes "refused 3" ∷ [])
unfolding switch_on_literals is_utf8 chars encode decode_pairs encode_with digits
bad_length_ends_the_connection = (refl, refl)

abbrev pub frame_in : List ℕ
frame_in = codes "f 1 02000000000202000000000188b500000000000000000000000000000000000000000000000000000000000000000000000000000000000000000000"

abbrev pub frame_out : List ℕ
frame_out = codes "s 2 02000000000202000000000188b500000000000000000000000000000000000000000000000000000000000000000000000000000000000000000000"

-- a flow that sends frames of port 1 out of port 2 does so
pub flow_forwards_frame : Prints
    (three_ports ++ hello
    ++ codes "c 040e00580000000200000000000000000000000000000000000000000000000affffffffffffffffffffffff000000000001000c800000040000000100000000000400180000000000000010000000020000000000000000"
    ∷ frame_in
    ∷ [])
    (answered_hello ∷ frame_out ∷ [])
unfolding switch_on_literals is_utf8 chars encode decode_pairs encode_with digits
flow_forwards_frame = (refl, refl)

-- so it does where its message comes in three chunks, and not before the last of them
pub chunks_do_the_same : Prints
    (three_ports ++ hello
    ++ codes "c 040e0058000000"
    ∷ frame_in
    ∷ codes "c 0200000000000000000000000000000000000000000000000affffffffffffffffffffffff000000000001"
    ∷ frame_in
    ∷ codes "c 000c800000040000000100000000000400180000000000000010000000020000000000000000"
    ∷ frame_in
    ∷ [])
    (answered_hello ∷ frame_out ∷ [])
unfolding switch_on_literals is_utf8 chars encode decode_pairs encode_with digits
chunks_do_the_same = (refl, refl)
