use Rattle.lighting_outputs.proofs.Priorities.Mask.{tested}
use Rattle.lighting_outputs.specs.Paper.Tenants.{is_tenant}
use Rattle.tenant_view.proofs.is_tenant.Goals as goal

pub returns : goal.returns
unfolding is_tenant
returns c = tested 32 c.args.marks c.args.station c.requires
