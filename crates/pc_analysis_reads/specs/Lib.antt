-- What the law rests on, beside the words of `pc_spec_wiring`, `pc_analysis_transparent` and `pc_inline_state`.
pub mod Exported
