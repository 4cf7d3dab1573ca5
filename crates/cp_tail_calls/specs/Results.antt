-- How much memory results take that no question took yet.
use Rattle.std.specs.Prelude.{ℕ, ◌+◌, ◌*◌, List, Option, Some, None, length}
use Rattle.std.specs.List.{sum_by}
use Rattle.std.specs.FinMap.{values}
use Rattle.cp_tables.specs.Table.{Table}
use Rattle.cp_messages.specs.declared.descriptor.Descriptor.{Descriptor}
use Rattle.cp_messages.specs.declared.descriptor.Descriptor.TheVariants as descriptors
use Rattle.cp_messages.specs.declared.returned.Return.{Return}
use Rattle.cp_messages.specs.declared.returned.Returned.{Returned}
use Rattle.cp_messages.specs.declared.returned.Returned.TheVariants as returns
use Rattle.cp_refs.specs.Memory.{exception_memory, tree_memory}

-- A descriptor: its place takes 96, and each operation 4.
abbrev pub descriptor_memory : Descriptor → ℕ
descriptor_memory (descriptors.ReceiverAnswer answer) = 96 + length answer.transform * 4
descriptor_memory (descriptors.ThirdPartyHosted tree) = 96 + tree_memory tree
descriptor_memory other = 96

abbrev pub table_memory : List Descriptor → ℕ
table_memory table = sum_by descriptor_memory table

-- what a Return says
abbrev pub returned_memory : Returned → ℕ
returned_memory (returns.Results payload) = tree_memory payload.content + table_memory payload.cap_table
returned_memory (returns.Exception exception) = exception_memory exception
returned_memory (returns.AcceptFromThirdParty tree) = tree_memory tree
returned_memory other = 0

abbrev pub return_memory : Return → ℕ
return_memory r = returned_memory r.returned

abbrev pub memory_at : Option Return → ℕ
memory_at None = 0
memory_at (Some r) = return_memory r

-- all Returns of a table
abbrev pub returns_memory : Table Return → ℕ
returns_memory results = sum_by return_memory (values results)
