-- All that speaks against a configuration's text.
use Rattle.std.specs.Prelude.{ℕ, List, [], ◌∷◌, ◌++◌, Option, Some, None, option_map, string_bytes, if◌then◌else◌}
use Rattle.std.specs.List.{filter_map}
use Rattle.std.specs.Option.{option_map_or}
use Rattle.toml.specs.Data.{Data, Members, no_members, member}
use Rattle.ddr_timing.specs.declared.key.Key.{Key}
use Rattle.ddr_timing.specs.Keys.{keys}
use Rattle.ddr_timing.specs.Refusals.{is_key, is_no_power, is_out_of_range}
use Rattle.ddr_timing.specs.Tables.{keys_of, number_of, value_of, version_of}
use Rattle.ddr_findings.specs.declared.fault.ConfigFault.{ConfigFault}
use Rattle.ddr_findings.specs.declared.fault.ConfigFault.TheVariants as faults
use Rattle.ddr_findings.specs.declared.relation.Relation.{Relation}
use Rattle.ddr_findings.specs.declared.takes.Takes.{Takes}
use Rattle.ddr_findings.specs.Nearest.{nearest}
use Rattle.ddr_findings.specs.Relations.{told_relations}
use Rattle.ddr_findings.specs.Shown.{shown}
use Rattle.ddr_findings.specs.Takes.{takes_of}

-- a fault, with names and values as texts
pub data Told : Type 0 where
  -- the text is no TOML document
  syntax : Told
  -- the key is not there
  missing : Key → Told
  -- the value at the key, given as told, is none of those that it takes
  range : Key → List ℕ → Takes → Told
  -- the value at the key is in range, but no power of two
  no_power : Key → ℕ → Told
  -- the name is no key, and this is the nearest one
  unknown : List ℕ → Key → Told
  -- the name is a key of version 2, of which the text is not
  later : List ℕ → Told
  -- a relation among the values is broken
  related : Relation → Told

-- what a fault tells
abbrev pub told : ConfigFault → Told
told faults.Syntax = syntax
told (faults.Missing key) = missing key
told (faults.Range key given takes) = range key (string_bytes given) takes
told (faults.NotPowerOfTwo key given) = no_power key given
told (faults.Unknown name key) = unknown (string_bytes name) key
told (faults.Later name) = later (string_bytes name)
told (faults.Related relation) = related relation

-- what speaks against the value at a key
abbrev pub value_fault : Members → Key → Data → Option Told
value_fault table key value =
    if is_out_of_range table key then Some (range key (shown value) (takes_of (version_of table) key))
    else (if is_no_power table key then Some (no_power key (number_of table key)) else None)

-- what speaks against the table at a key that it is to have
unfoldable pub key_fault : Members → Key → Option Told
key_fault table key = option_map_or (value_fault table key) (value_of table key) (Some (missing key))

-- what speaks against a name of the table
unfoldable pub name_fault : Members → List ℕ → Option Told
name_fault table name =
    if is_key (keys_of table) name then None
    else (if is_key (keys 2) name then Some (later name) else Some (unknown name (nearest (keys_of table) name)))

-- the names of the members
abbrev pub names_of : Members → List (List ℕ)
names_of no_members = []
names_of (member name value rest) = name ∷ names_of rest

-- the faults of the keys in their order, of the names in theirs, and the broken relations in theirs
abbrev pub table_faults : Members → List Told
table_faults table =
    filter_map (key_fault table) (keys_of table)
    ++ (filter_map (name_fault table) (names_of table)
    ++ filter_map (option_map related) (told_relations table))

-- the faults of a text that is this table, or none
unfoldable pub faults_of : Option Members → List Told
faults_of None = syntax ∷ []
faults_of (Some table) = table_faults table
