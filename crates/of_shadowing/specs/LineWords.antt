-- THE WORDS OF A LINE: those that are conditions of their own, and the line without them and without its actions.
use Rattle.std.specs.Prelude.{ℕ, ◌&&◌, ◌||◌, not, Bool, true, false, List, [], ◌∷◌, ◌++◌, codes, filter, if◌then◌else◌}
use Rattle.std.specs.Str.{bytes_eq, str_eq_ignore_ascii_case}
use Rattle.of_ovs_words.specs.Words.{word_name, word_value}
use Rattle.of_ovs_lines.specs.PartialFlows.{begins_actions}
use Rattle.of_shadowing.specs.{Conditions.is_arp_field, Conditions.is_condition, Conditions.is_fragments, Leads.Scan, Leads.no_scan, Leads.with_action_led}

pub record LineWords : Type 0 where
  -- those that are no conditions, and `actions=drop` in place of all actions
  pub plain : List ℕ
  pub conditions : List (List ℕ)
  -- a word is `rarp`
  pub is_rarp : Bool
  pub in_actions : Bool
  -- an action is `conjunction`
  pub is_clause : Bool
  -- where its actions lead
  pub scan : Scan

abbrev pub no_line_words : LineWords
no_line_words = record { plain = []; conditions = []; is_rarp = false; in_actions = false; is_clause = false; scan = no_scan }

abbrev pub is_conjunction : List ℕ → Bool
is_conjunction word = str_eq_ignore_ascii_case (word_name word) (codes "conjunction")

abbrev pub with_action_passed : LineWords → List ℕ → LineWords
with_action_passed s word = record s { is_clause = s.is_clause || is_conjunction word; scan = with_action_led s.scan word }

-- the first action is behind `actions=`
abbrev pub with_actions_begun : LineWords → List ℕ → LineWords
with_actions_begun s word = record s { plain = s.plain ++ codes "actions=drop"; in_actions = true; is_clause = is_conjunction (word_value word); scan = with_action_led s.scan (word_value word) }

abbrev pub is_field_of : List ℕ → List ℕ → Bool
is_field_of name other = bytes_eq name other || (is_fragments name && is_fragments other)

-- a word takes the place of those of its field
abbrev pub with_word_named : List ℕ → List (List ℕ) → List (List ℕ)
with_word_named word words = filter (λ w. not (is_field_of (word_name w) (word_name word))) words ++ word ∷ []

-- a condition takes the place of an earlier one of the same field
abbrev pub with_condition : LineWords → List ℕ → LineWords
with_condition s word = record s { conditions = with_word_named word s.conditions }

abbrev pub with_plain : LineWords → List ℕ → LineWords
with_plain s word = record s { plain = (s.plain ++ word) ++ codes ","; is_rarp = s.is_rarp || bytes_eq word (codes "rarp") }

-- ONE MORE WORD of a line
abbrev pub with_line_word : LineWords → List ℕ → LineWords
with_line_word s word =
    if s.in_actions then with_action_passed s word
    else if begins_actions word then with_actions_begun s word
    else if is_condition word || (s.is_rarp && is_arp_field (word_name word)) then with_condition s word
    else with_plain s word
