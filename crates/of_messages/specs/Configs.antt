-- The configuration of a switch (OpenFlow 1.3.5, 7.3.2), and TABLE_MOD (7.3.3).
use Rattle.std.specs.Prelude.{ℕ, ◌==◌, nat_lt, Bool, ◌||◌, List, [], ◌∷◌, Result, Ok, Err, if◌then◌else◌}
use Rattle.of_wire.specs.{declared.codes.TheConstants.OFPBRC_BAD_LEN, declared.codes.TheConstants.OFPSCFC_BAD_FLAGS, declared.codes.TheConstants.OFPTMFC_BAD_TABLE, declared.code.Code.Code}
use Rattle.of_messages.specs.{declared.config.SwitchConfig.SwitchConfig, declared.config.TableMod.TableMod}
use Rattle.of_formats.specs.Structs.{numbers}
use Rattle.of_formats.specs.Tables as tables

-- OFPSCFC_BAD_FLAGS for any flag: fragments are treated as other frames are
abbrev pub set_config_by : List ℕ → Result SwitchConfig Code
set_config_by (flags ∷ miss_send_len ∷ []) = if flags == 0 then Ok (record { miss_send_len = miss_send_len }) else Err OFPSCFC_BAD_FLAGS
set_config_by other = Err OFPBRC_BAD_LEN

abbrev pub set_config_of : List ℕ → Result SwitchConfig Code
set_config_of m = set_config_by (numbers tables.switch_config 8 m)

-- 0 to 15, or 255 for all
abbrev pub names_table : ℕ → Bool
names_table table = nat_lt table 16 || table == 255

-- OFPTMFC_BAD_TABLE
abbrev pub table_mod_by : List ℕ → Result TableMod Code
table_mod_by (table ∷ config ∷ []) = if names_table table then Ok (record { table = table; config = config }) else Err OFPTMFC_BAD_TABLE
table_mod_by other = Err OFPBRC_BAD_LEN

abbrev pub table_mod_of : List ℕ → Result TableMod Code
table_mod_of m = table_mod_by (numbers tables.table_mod 8 m)
