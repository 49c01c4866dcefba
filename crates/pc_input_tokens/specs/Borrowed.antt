-- The data of a tree in which numbers are text, and an object keeps a key that comes twice.
use Rattle.std.specs.Prelude.{negsuc, Option, Some, None}
use Rattle.std.specs.declared.alloc.Global.{Global}
use Rattle.json.specs.Json as json
use Rattle.json.specs.Value.{value_view}
use Rattle.json.specs.declared.value.Value.{Value}
use Rattle.serde_json.specs.Data.{Num, negative, Data, null, boolean, number, string, array, object}
use Rattle.serde_json.specs.Data.{Items, no_items, item, Members, no_members, put}
use Rattle.serde_json.specs.Read.{number_of}

-- a number out of range has no value; it counts as one that is not whole, and no text that is read has it
abbrev pub number_data : Option Num → Data
number_data None = number (negative (negsuc 0))
number_data (Some n) = number n

-- members go in one after another, so the last value of a key stays
abbrev mutual
  -- the data that a tree stands for
  pub data_of : json.Json → Data
  data_of json.null = null
  data_of (json.boolean b) = boolean b
  data_of (json.number s) = number_data (number_of s)
  data_of (json.string s) = string s
  data_of (json.array js) = array (items_data js)
  data_of (json.object ms) = object (members_data ms no_members)

  -- the items of an array, as data
  pub items_data : json.Items → Items
  items_data json.no_items = no_items
  items_data (json.item j js) = item (data_of j) (items_data js)

  -- members as data, after those that were found before
  pub members_data : json.Members → Members → Members
  members_data json.no_members found = found
  members_data (json.member k j ms) found = members_data ms (put k (data_of j) found)

-- the data that a tree in memory stands for
abbrev pub data_in : Value Global → Data
data_in v = data_of (value_view v)
