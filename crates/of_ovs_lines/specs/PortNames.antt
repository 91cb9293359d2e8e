-- NAMES OF PORTS in a table of ovs-ofctl, as their numbers.
use Rattle.std.specs.Prelude.{ℕ, ◌-◌, ◌==◌, ◌&&◌, ◌||◌, nat_lt, Bool, true, false, List, [], ◌∷◌, ◌++◌, codes, drop, get_or, length, not, take, Result, Err, if◌then◌else◌}
use Rattle.std.specs.Str.{bytes_eq, str_eq_ignore_ascii_case}
use Rattle.of_lines.specs.Lines.{before, behind}
use Rattle.of_ovs_words.specs.{declared.why.Why.Why, declared.why.Why.TheVariants.PortName, Ports.port_in, Words.is_gap}
use Rattle.of_ovs_lines.specs.LineContents.{trimmed}

-- ---- the names, as `ovs-ofctl dump-ports-desc` prints them: ` 1(s1-eth1): addr:..`, ` LOCAL(s1): addr:..`

-- a number, or the name of a reserved port
abbrev pub is_no_port_name : Result ℕ Why → Bool
is_no_port_name (Err PortName) = false
is_no_port_name other = true

abbrev pub says_port : List ℕ → Bool
says_port word = is_no_port_name (port_in PortName word)

abbrev pub listed_number : List ℕ → List ℕ
listed_number line = before 40 (trimmed line)

abbrev pub listed_name : List ℕ → List ℕ
listed_name line = before 41 (behind 40 (trimmed line))

abbrev pub lists_port : List ℕ → List ℕ → Bool
lists_port name line = not (length name == 0) && says_port (listed_number line) && bytes_eq (listed_name line) name

-- the number of the first port of a name, or a word instead
abbrev pub number_or : List ℕ → List ℕ → List (List ℕ) → List ℕ
number_or word name [] = word
number_or word name (line ∷ lines) = if lists_port name line then listed_number line else number_or word name lines

-- ---- a word that is the name of a port: "s1-eth1" or s1-eth1

abbrev pub is_quoted : List ℕ → Bool
is_quoted word = nat_lt 1 (length word) && (get_or word 0 0 == 34) && (get_or word (length word - 1) 0 == 34)

abbrev pub unquoted : List ℕ → List ℕ
unquoted word = take (length word - 2) (drop 1 word)

abbrev pub port_number : List (List ℕ) → List ℕ → List ℕ
port_number list word =
    if is_quoted word then number_or word (unquoted word) list
    else if says_port word then word
    else number_or word word list

-- ---- the words of a text, each with the byte that ends it, outside of quotation marks: a gap, a parenthesis, `=`, `:` or the end of the line

abbrev pub ends_token : Bool → ℕ → Bool
ends_token quoted b = (b == 10) || (not quoted && (is_gap b || b == 61 || b == 58 || b == 40 || b == 41))

abbrev pub quoted_after : Bool → ℕ → Bool
quoted_after quoted b = if b == 34 then not quoted else quoted

abbrev pub token_in : Bool → List ℕ → List ℕ
token_in quoted [] = []
token_in quoted (b ∷ bs) = if ends_token quoted b then [] else b ∷ token_in (quoted_after quoted b) bs

abbrev pub end_in : Bool → List ℕ → List ℕ
end_in quoted [] = []
end_in quoted (b ∷ bs) = if ends_token quoted b then b ∷ [] else end_in (quoted_after quoted b) bs

abbrev pub after_token : Bool → List ℕ → List ℕ
after_token quoted [] = []
after_token quoted (b ∷ bs) = if ends_token quoted b then bs else after_token (quoted_after quoted b) bs

-- the byte before the first of them
abbrev pub before_token : ℕ → List (List ℕ × List ℕ) → List (List ℕ × List ℕ)
before_token b [] = (b ∷ [], []) ∷ []
before_token b (t ∷ ts) = (b ∷ t.0, t.1) ∷ ts

unfoldable pub tokens : Bool → List ℕ → List (List ℕ × List ℕ)
tokens quoted [] = []
tokens quoted (b ∷ bs) = if ends_token quoted b then ([], b ∷ []) ∷ tokens false bs else before_token b (tokens (quoted_after quoted b) bs)

-- a port follows: `in_port=`, `output:`, `watch_port:`
abbrev pub comes_before_port : List ℕ → List ℕ → Bool
comes_before_port word mark =
    (bytes_eq mark (codes "=") || bytes_eq mark (codes ":"))
    && (str_eq_ignore_ascii_case word (codes "in_port") || str_eq_ignore_ascii_case word (codes "output") || str_eq_ignore_ascii_case word (codes "watch_port"))

abbrev pub numbered_token : List (List ℕ) → Bool → List ℕ → List ℕ
numbered_token list here word = if here then port_number list word else word

-- THE TEXT WITH THE NUMBERS OF PORTS in place of their names
unfoldable pub with_port_numbers : List (List ℕ) → Bool → List (List ℕ × List ℕ) → List ℕ
with_port_numbers list here [] = []
with_port_numbers list here (t ∷ ts) = numbered_token list here t.0 ++ t.1 ++ with_port_numbers list (comes_before_port t.0 t.1) ts
