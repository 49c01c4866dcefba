-- Computing the reading of a text, and its first static fault.
use Rattle.std.specs.Prelude.{⊤}
use Rattle.serde_json.proofs.OnLiterals.{serde_json_on_literals}
use Rattle.pc_input_values.specs.Words.{core_types, prim_types, core_kinds, item_kinds, outer_kinds}
use Rattle.pc_input_values.specs.Names.{extern_name, core_item}
use Rattle.pc_input_values.specs.Types.{core_sig, val_type, entity_kinds, entity, bare_core_entities, core_entity}
use Rattle.pc_input_values.specs.Types.{func_members, func_type, value_keys, entry_keys, decl_type, type_table}
use Rattle.pc_input.specs.Canon.{option_words, option_kinds, canon_option, of_nothing, of_signature, of_index}
use Rattle.pc_input.specs.Canon.{of_flag, of_options, of_one, of_cancel, of_copy, of_slot, of_start}
use Rattle.pc_input.specs.Canon.{of_two_numbered, of_two_with_options, of_two, of_function, of_four, canon_from}
use Rattle.pc_input.specs.Canon.{canon_item, thread_of_signature}
use Rattle.pc_input.specs.Module.{core_module}
use Rattle.pc_input.specs.Payload.{type_item, import_item, export_entry, instance_item, component_instance_item}
use Rattle.pc_input.specs.Payload.{alias_item, payload_words, payload_keys, payload_of}
use Rattle.pc_parsed.specs.StaticFault.{static_fault}
use Rattle.pc_spec_reading.specs.Canonical.{canonical_item}
use Rattle.pc_spec_reading.specs.Section.{items_of}
use Rattle.pc_spec_reading.specs.Nest.{rest_of, root_of, exposing, counts_in}
use Rattle.pc_spec_reading.specs.Types.{type_tree, tree_if, signature_at, value_tree, results_tree}
use Rattle.pc_spec_reading.specs.Options.{options_of, the_options, memory_options}
use Rattle.pc_spec_reading.specs.SameTypes.{same_type}
use Rattle.pc_spec_reading.specs.SameValues.{was_made, same_value}
use Rattle.pc_spec_reading.specs.Arguments.{core_export, static_arguments, host_arguments}
use Rattle.pc_spec_reading.specs.Modules.{read_module, read_core_instance, read_core_exports, read_core_alias}
use Rattle.pc_spec_reading.specs.Functions.{read_lift, read_lower, read_context, lower_to, making}
use Rattle.pc_spec_reading.specs.Builtins.{read_builtin, read_waitable, read_task_return, read_error_context}
use Rattle.pc_spec_reading.specs.Builtins.{read_new_thread}
use Rattle.pc_spec_reading.specs.Member.{member, resource_at, resource_among}
use Rattle.pc_spec_reading.specs.Resource.{resource_paths, registered, walk, newly}
use Rattle.pc_spec_reading.specs.Items.{value_at, exported_value, argument_value, exports_at}
use Rattle.pc_spec_reading.specs.Instances.{read_component_exports, read_alias, read_export}
use Rattle.pc_spec_reading.specs.Components.{read_component, read_outer, outer_of, read_call, add_child, read_return}
use Rattle.pc_spec_reading.specs.Components.{is_definable}
use Rattle.pc_spec_reading.specs.Imports.{prepare, import_resources, read_import, read_intrinsics}
use Rattle.pc_spec_reading.specs.Rows.{read_resource, read_row}
use Rattle.pc_spec_reading.specs.Total.{counted, body_weight, prepared_weight, item_weight}
use Rattle.pc_spec_reading.specs.HostTypes.{type_at}
use Rattle.pc_spec_reading.specs.Nodes.{host_node, value_node}
use Rattle.pc_spec_reading.specs.Reading.{prepare_all, root_exports, finishing, instantiate}
use Rattle.pc_spec_reading.specs.Reading.{read_item, read_items, read_body, enter_at, read_root, reading_of, reading}

-- what an answer unfolds to compute the tree of a text, the input that it is, and its reading
unfoldable pub on_literals : ⊤
unfolding serde_json_on_literals core_types prim_types core_kinds item_kinds outer_kinds extern_name core_item
    core_sig val_type entity_kinds entity bare_core_entities core_entity func_members func_type value_keys
    entry_keys decl_type type_table option_words option_kinds canon_option of_nothing of_signature
    thread_of_signature of_index of_flag of_options of_one of_cancel of_copy of_slot of_start of_two_numbered
    of_two_with_options of_two of_function of_four canon_from canon_item core_module type_item import_item
    export_entry instance_item component_instance_item alias_item payload_words payload_keys payload_of
    canonical_item items_of rest_of root_of exposing counts_in type_tree tree_if signature_at value_tree
    results_tree options_of the_options memory_options same_type was_made same_value core_export static_arguments
    host_arguments read_module read_core_instance read_core_exports read_core_alias read_lift read_lower
    read_context lower_to making read_builtin read_waitable read_task_return read_error_context read_new_thread
    member resource_at resource_among resource_paths registered walk newly value_at exported_value argument_value exports_at
    read_component_exports read_alias read_export read_component read_outer outer_of read_call add_child read_return
    is_definable prepare import_resources read_import read_intrinsics read_resource read_row counted body_weight
    prepared_weight item_weight type_at host_node value_node prepare_all root_exports finishing instantiate
    read_item read_items read_body enter_at read_root reading_of reading static_fault
on_literals = tt
