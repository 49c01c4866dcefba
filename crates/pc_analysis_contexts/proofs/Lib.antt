-- where items come from
mod OriginLemmas
-- indexes of modules
mod IndexLemmas
-- the core instances of a graph, in order
mod CoreLemmas
-- the keys of what is given
mod KeyLemmas
-- what is kept of core instances
mod MadeLemmas
-- which function imports share a key
mod ShareLemmas
-- what is known before any core instance is looked at
mod StartLemmas
-- partitions, a core instance at a time
mod PartitionLemmas
-- what is recorded
mod RecordLemmas
