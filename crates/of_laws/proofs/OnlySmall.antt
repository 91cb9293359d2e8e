-- What is in the places of a small message, it says.
use Rattle.std.proofs.Common.{◌≡◌, ◌≤◌, ℕ, Bool, true, eqb, cond, List, [], ◌∷◌, length, take, drop, Option, Some, Ok, Err, refl, sym, ap, ◌∙◌, arith, inl, inr}
use Rattle.std.{specs.Prelude.bit_and, proofs.lemmas.Bool.eq-eqb, proofs.lemmas.Bool.Decides.nat_tests}
use Rattle.byteorder.specs.Endian.{big_number}
use Rattle.of_wire.specs.Refusals.{refusal}
use Rattle.of_messages.specs.{declared.async_masks.AsyncMasks.AsyncMasks, declared.config.SwitchConfig.SwitchConfig, declared.config.TableMod.TableMod, declared.port_mod.PortMod.PortMod}
use Rattle.of_messages.specs.declared.role.RoleRequest.{RoleRequest}
use Rattle.of_messages.specs.declared.role.RoleRequest.TheVariants.{NoChange, Equal, Master, Slave}
use Rattle.of_messages.specs.{AsyncConfigs.async_masks_of, Configs.set_config_of, Configs.names_table, Configs.table_mod_of, PortMods.known_bits, PortMods.port_mod_of}
use Rattle.of_messages.specs.Roles.{asked_by, role_request_of}
use Rattle.of_formats.{specs.Reading.known, specs.Structs.bytes_from, proofs.StructLaws.bytes_taken}
use Rattle.of_laws.specs.Cells.{byte, u16_cell, u32_cell, pad, plain}
use Rattle.of_laws.{specs.Grammar.async_config_cells, specs.Grammar.role_cells, specs.Requests.NamesTable, proofs.Places.Says, proofs.Places.size}

pub config_only : (c : SwitchConfig) (m : List ℕ) → Says 8 (u16_cell 0 ∷ u16_cell c.miss_send_len ∷ []) m → set_config_of m ≡ Ok c
config_only c m h = rw (h.0, h.1.0) refl

pub table_named : (t : ℕ) → NamesTable t → names_table t ≡ true
table_named t (inl lt) = grind (arith, nat_tests)
table_named t (inr is) = rw is refl

pub table_mod_only : (t : TableMod) (m : List ℕ) → Says 8 (byte t.table ∷ pad 3 ∷ u32_cell t.config ∷ []) m → NamesTable t.table → table_mod_of m ≡ Ok t
table_mod_only t m h valid =
    let named = table_named t.table valid in
    rw (h.0, named, h.1.0) refl

-- ---- PORT_MOD

-- the six bytes of an address, one by one
pub six_bytes : (m : List ℕ) → 22 ≤ length m → take 6 (drop 16 m) ≡ bytes_from 16 6 m
six_bytes m long = sym (bytes_taken 6 16 m long)

same_port_mod : (p : PortMod) (port config mask : ℕ) (hw : List ℕ) → port ≡ p.port → hw ≡ p.hw → config ≡ p.config → mask ≡ p.mask → record { port = port; hw = hw; config = config; mask = mask } ≡ p
same_port_mod p port config mask hw a b c d = rw (a, b, c, d) refl

pub port_mod_only : (p : PortMod) (m : List ℕ) → 22 ≤ length m → Says 8 (u32_cell p.port ∷ pad 4 ∷ plain 6 p.hw ∷ pad 2 ∷ u32_cell p.config ∷ u32_cell p.mask ∷ pad 4 ∷ pad 4 ∷ []) m → bit_and p.mask 101 ≡ p.mask → port_mod_of m ≡ Ok p
port_mod_only p m long h valid =
    let mask : big_number 4 (drop 28 m) ≡ p.mask = h.1.1.1.0 in
    let fine : eqb (bit_and (big_number 4 (drop 28 m)) known_bits) (big_number 4 (drop 28 m)) ≡ true =
    eq-eqb _ _ (ap (λ (n : ℕ). bit_and n known_bits) mask ∙ valid ∙ sym mask) in
    ap (λ (b : Bool). cond b (Ok (record { port = big_number 4 (drop 8 m); hw = bytes_from 16 6 m; config = big_number 4 (drop 24 m); mask = big_number 4 (drop 28 m) })) (Err (refusal 7 2))) fine
    ∙ ap Ok (same_port_mod p _ _ _ _ h.0 (sym (six_bytes m long) ∙ h.1.0) h.1.1.0 mask)

-- ---- ROLE_REQUEST

asked_0 : (generation : ℕ) → asked_by 0 generation ≡ Some NoChange
unfolding asked_by
asked_0 generation = refl

asked_1 : (generation : ℕ) → asked_by 1 generation ≡ Some Equal
unfolding asked_by
asked_1 generation = refl

asked_2 : (generation : ℕ) → asked_by 2 generation ≡ Some (Master generation)
unfolding asked_by
asked_2 generation = refl

asked_3 : (generation : ℕ) → asked_by 3 generation ≡ Some (Slave generation)
unfolding asked_by
asked_3 generation = refl

asks : (m : List ℕ) (n : ℕ) (r : RoleRequest) → big_number 4 (drop 8 m) ≡ n → asked_by n (big_number 8 (drop 16 m)) ≡ Some r → role_request_of m ≡ Ok r
asks m n r is asked = ap (λ (k : ℕ). known (asked_by k (big_number 8 (drop 16 m))) (refusal 11 2)) is ∙ ap (λ (o : Option RoleRequest). known o (refusal 11 2)) asked

pub role_only : (r : RoleRequest) (m : List ℕ) → Says 8 (role_cells r) m → role_request_of m ≡ Ok r
role_only NoChange m h = asks m 0 NoChange h.0 (asked_0 _)
role_only Equal m h = asks m 1 Equal h.0 (asked_1 _)
role_only (Master generation) m h = asks m 2 (Master generation) h.0 (asked_2 _ ∙ ap (λ (g : ℕ). Some (Master g)) h.1.0)
role_only (Slave generation) m h = asks m 3 (Slave generation) h.0 (asked_3 _ ∙ ap (λ (g : ℕ). Some (Slave g)) h.1.0)

pub role_size : (r : RoleRequest) → size (role_cells r) ≡ 16
role_size NoChange = refl
role_size other = refl

-- ---- SET_ASYNC

same_masks : (a : AsyncMasks) (p q r s t u : ℕ) → p ≡ a.packet_in.master → q ≡ a.packet_in.slave → r ≡ a.port_status.master → s ≡ a.port_status.slave → t ≡ a.flow_removed.master → u ≡ a.flow_removed.slave
    → record { packet_in = record { master = p; slave = q }; port_status = record { master = r; slave = s }; flow_removed = record { master = t; slave = u } } ≡ a
same_masks a p q r s t u e f g h i j = rw (e, f, g, h, i, j) refl

pub async_only : (a : AsyncMasks) (m : List ℕ) → Says 8 (async_config_cells a) m → async_masks_of m ≡ a
async_only a m h = same_masks a _ _ _ _ _ _ h.0 h.1.0 h.1.1.0 h.1.1.1.0 h.1.1.1.1.0 h.1.1.1.1.1.0
