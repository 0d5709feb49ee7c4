-- The names of tags (docs/FORMAT.md, "Instructions"), as tools/from_table.py writes them.
use Rattle.std.specs.Prelude.{ℕ, List, [], ◌∷◌, codes}

-- by the number of the tag; no text if no instruction begins with the byte
abbrev pub tag_names : List (List ℕ)
tag_names =
    [] ∷
    codes "LOAD_CONST" ∷
    codes "UNIT" ∷
    codes "FALSE" ∷
    codes "TRUE" ∷
    codes "LOAD_LOCAL" ∷
    codes "STORE_LOCAL" ∷
    codes "ASSIGN_LOCAL" ∷
    codes "ASSIGN_LOCAL_OP" ∷
    codes "DECLARE_LOCAL" ∷
    codes "DECLARE_CONST" ∷
    codes "POP" ∷
    codes "JUMP" ∷
    codes "JUMP_IF_TRUE" ∷
    codes "JUMP_IF_FALSE" ∷
    codes "CALL" ∷
    codes "CALL_OP" ∷
    codes "UNWIND_TO" ∷
    codes "TICK" ∷
    codes "RETURN" ∷
    codes "EVAL_AST" ∷
    codes "EVAL_AST_KEEP" ∷
    codes "CHAIN" ∷
    codes "MAKE_ARRAY" ∷
    codes "SWITCH" ∷
    codes "LOAD_NAMED" ∷
    codes "ASSIGN_NAMED" ∷
    codes "ASSIGN_NAMED_OP" ∷
    codes "THROW" ∷
    codes "ITER_INIT" ∷
    codes "ITER_NEXT" ∷
    codes "ITER_DROP" ∷
    codes "STORE_SHARED" ∷
    codes "ITER_NEXT_INDEXED" ∷
    codes "POP_HANDLER" ∷
    codes "PUSH_HANDLER" ∷
    codes "PUSH_HANDLER_VAR" ∷
    codes "INTERPOLATE_START" ∷
    codes "INTERPOLATE_APPEND" ∷
    codes "INTERPOLATE_END" ∷
    codes "MAKE_FN_PTR" ∷
    codes "CURRY" ∷
    codes "CALL_FN_PTR" ∷
    codes "CALL_FN_PTR_METHOD" ∷
    codes "SHARE" ∷
    codes "SHARE_NAMED" ∷
    codes "LOAD_SHARED" ∷
    codes "MAKE_CLOSURE" ∷
    codes "IS_SHARED" ∷
    codes "CHECKPOINT" ∷
    codes "CHECK_ARRAY_SIZE" ∷
    codes "CHECK_MAP_SIZE" ∷
    codes "MAKE_MAP" ∷
    codes "CALL_LOCAL_REF" ∷
    codes "ROTATE" ∷
    codes "CALL_NAMED_REF" ∷
    codes "LOAD_SHARED_NAMED" ∷
    codes "LOAD_THIS" ∷
    codes "LOAD_THIS_SHARED" ∷
    codes "REQUIRE_THIS" ∷
    codes "ASSIGN_THIS" ∷
    codes "ASSIGN_THIS_OP" ∷
    codes "CALL_THIS_REF" ∷
    codes "CALL_FN_PTR_ON_LOCAL" ∷
    codes "CALL_FN_PTR_ON_NAMED" ∷
    codes "CALL_FN_PTR_ON_THIS" ∷
    codes "SKIP_IF_NOT_UNIT" ∷
    [] ∷
    [] ∷
    [] ∷
    [] ∷
    codes "STATEMENT" ∷
    codes "STORE_CONST" ∷
    codes "CALL_FN_PTR_CAPTURE" ∷
    codes "CUSTOM_SYNTAX" ∷
    codes "DECLARE_GLOBAL_CONST" ∷
    [] ∷
    codes "EXPORT_LOCAL" ∷
    codes "EXPORT_NAMED" ∷
    codes "IMPORT" ∷
    []
