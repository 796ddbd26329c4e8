-- Why a configuration's table is refused.
use Rattle.std.specs.Prelude.{◌≡◌, ℕ, ◌+◌, max, List, [], ◌∷◌, Bool, true, false, ◌&&◌, ◌||◌, not, nat_le, nat_lt, Option, Some, None, is_none, option_map, if◌then◌else◌, find, position}
use Rattle.std.specs.Int.{is_power_of_two}
use Rattle.std.specs.List.{list_any}
use Rattle.std.specs.Option.{option_map_or}
use Rattle.std.specs.Str.{bytes_eq}
use Rattle.toml.specs.Data.{Members, no_members, member}
use Rattle.ddr_timing.specs.declared.units.TheConstants.{BURST_CLOCKS}
use Rattle.ddr_timing.specs.declared.error.ConfigError.{ConfigError}
use Rattle.ddr_timing.specs.declared.error.ConfigError.TheVariants.{Syntax, Missing, UnknownKey, Range, NotPowerOfTwo, Relation}
use Rattle.ddr_timing.specs.declared.key.Key.{Key}
use Rattle.ddr_timing.specs.declared.key.Key.TheVariants.{Low, High, Writes, Cl, Cwl, Rp, Ras, RrdS, RrdL, CcdS, CcdL, Wr, Rtp, Rtw, Rfc, Refi}
use Rattle.ddr_timing.specs.declared.key.Domain.{Domain}
use Rattle.ddr_timing.specs.declared.key.Domain.TheVariants.{PowerOfTwo}
use Rattle.ddr_timing.specs.Keys.{domain_of, name_of}
use Rattle.ddr_timing.specs.Tables.{is_in, keys_of, number_of, value_of, version_of}

-- the table lacks the key
abbrev pub is_missing : Members → Key → Bool
is_missing table key = is_none (value_of table key)

-- one of the keys is spelled so
abbrev pub is_key : List Key → List ℕ → Bool
is_key keys name = list_any (λ key. bytes_eq name (name_of key)) keys

-- some member has none of the keys
abbrev pub has_other : List Key → Members → Bool
has_other keys no_members = false
has_other keys (member name value rest) = not (is_key keys name) || has_other keys rest

-- some key of the table is none of a configuration's
abbrev pub has_unknown : Members → Bool
has_unknown table = has_other (keys_of table) table

-- the value at the key is none of its domain
abbrev pub is_out_of_range : Members → Key → Bool
is_out_of_range table key = not (option_map_or (is_in (version_of table) (domain_of key)) (value_of table key) false)

-- the first key with a value out of its domain
abbrev pub out_of_range : Members → Option Key
out_of_range table = find (is_out_of_range table) (keys_of table)

-- the value at the key is to be a power of two, and is none
abbrev pub is_no_power : Members → Key → Bool
is_no_power table key = wants_power (domain_of key) && not (is_power_of_two (number_of table key))
  where
    wants_power : Domain → Bool
    wants_power (PowerOfTwo low high) = true
    wants_power _ = false

-- the first key whose value is no power of two where one is wanted
abbrev pub not_power_of_two : Members → Option Key
not_power_of_two table = find (is_no_power table) (keys_of table)

-- the relations among the values, in their order
abbrev pub relations : Members → List Bool
relations table =
    let n = number_of table in
    nat_le BURST_CLOCKS (n CcdS)
    ∷ nat_le (n CcdS) (n CcdL)
    ∷ nat_le (n RrdS) (n RrdL)
    ∷ (nat_le BURST_CLOCKS (n Rtw) && nat_le (n Cl + BURST_CLOCKS) (n Rtw + n Cwl))
    ∷ nat_le (max (max (max (n Ras) (n Cwl + BURST_CLOCKS + n Wr)) (n Rtp) + n Rp) (n Rfc) + 4) (n Refi)
    ∷ nat_lt (n Low) (n High)
    ∷ nat_le (n High) (n Writes)
    ∷ []

-- the number of the lowest broken relation, counted from 1
abbrev pub broken_relation : Members → Option ℕ
broken_relation table = option_map (λ place. place + 1) (position not (relations table))

-- the values are fit to be a configuration's
pub record IsSound (table : Members) : Type 0 where
  pub ranged : out_of_range table ≡ None
  pub powers : not_power_of_two table ≡ None
  pub related : broken_relation table ≡ None

-- the first of the refusals that applies
abbrev pub first_of : List (Option ConfigError) → Option ConfigError
first_of [] = None
first_of (None ∷ more) = first_of more
first_of (Some refusal ∷ more) = Some refusal

-- why the table is refused, if it is
unfoldable pub table_refusal : Members → Option ConfigError
table_refusal table =
    first_of
    (option_map Missing (find (is_missing table) (keys_of table))
    ∷ (if has_unknown table then Some UnknownKey else None)
    ∷ option_map Range (out_of_range table)
    ∷ option_map NotPowerOfTwo (not_power_of_two table)
    ∷ option_map Relation (broken_relation table)
    ∷ [])

-- why a text that is this table, or none, is refused, if it is
abbrev pub refusal_of : Option Members → Option ConfigError
refusal_of None = Some Syntax
refusal_of (Some table) = table_refusal table
