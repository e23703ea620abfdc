pub mod FunctionNames
pub mod BindersInText
pub mod Parameters
