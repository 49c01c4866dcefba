-- Bodies whose exports have names of their own, and whose modules were handed in.
pub use Rattle.pc_local.specs.Sound.{AreSoundBodies, IsSoundBody, IsSoundItem, export_name}
