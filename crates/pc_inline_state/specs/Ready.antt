-- What an instantiation has found out of its type table before it begins.
use Rattle.pc_types_walk.specs.Leads.{AreLeads}
use Rattle.pc_inline_state.specs.declared.context.Context.{Context}

-- through which exports each instance type leads to its resources
pub record IsReady (c : Context) : Type 0 where
  pub leads : AreLeads c.table.now c.leads
